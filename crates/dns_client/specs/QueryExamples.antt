-- Responses and looks by example, one for each rule that a slip would change.
use Rattle.std.specs.Prelude.{◌≡◌, ℕ, ◌+◌, true, false, List, [], ◌∷◌, replicate, Option, Some, None, pos}
use Rattle.net_wire.specs.declared.address.IpAddress.{IpAddress}
use Rattle.net_wire.specs.declared.address.IpAddress.TheVariants as ip
use Rattle.net_wire.specs.declared.dns.dns_type.DnsType.TheVariants as dns
use Rattle.dns_client.specs.declared.query.DnsQuery.{DnsQuery}
use Rattle.dns_client.specs.declared.query.MulticastDns.{MulticastDns}
use Rattle.dns_client.specs.declared.query.MulticastDns.TheVariants.{Disabled, Enabled}
use Rattle.dns_client.specs.declared.query.QueryState.TheVariants.{Answered}
use Rattle.dns_client.specs.Examples.{ipv4}
use Rattle.dns_client.specs.Query.{first_turn, pending_with}
use Rattle.dns_client.specs.Response.{after_response, arrived_by, failed}
use Rattle.dns_client.specs.Sends.{QueryLook, slot_behind, messages_to}
use Rattle.dns_client.specs.Slots.{Slots}
use Rattle.dns_client.specs.Waiting.{RequestValue}

-- a query for the name `a` of type A
abbrev pub request : MulticastDns → RequestValue
request mdns = record { name = 1 ∷ 97 ∷ 0 ∷ []; type_ = dns.A; mdns = mdns; id = 7; port = 1025 }

-- it, once a message was sent to an address
abbrev pub asked : MulticastDns → Option IpAddress → Option DnsQuery
asked mdns to = Some (pending_with (request mdns) (record first_turn { asked = to }))

abbrev pub answered : ℕ → Option DnsQuery
answered last = Some (record { state = Answered (record { items = ipv4 last ∷ [] }) })

-- a response of a response code with one question, for a name of one letter, and answers behind it
abbrev pub response : ℕ → ℕ → List ℕ → List ℕ
response rcode letter answers =
    0 ∷ 7 ∷ 0x81 ∷ (0x80 + rcode) ∷ 0 ∷ 1 ∷ 0 ∷ 1 ∷ 0 ∷ 0 ∷ 0 ∷ 0 ∷ 1 ∷ letter ∷ 0 ∷ 0 ∷ 1 ∷ 0 ∷ 1 ∷ answers

-- the address 192.0.2.9 of the name of the question
abbrev pub answer : List ℕ
answer = 0xC0 ∷ 12 ∷ 0 ∷ 1 ∷ 0 ∷ 1 ∷ 0 ∷ 0 ∷ 0 ∷ 60 ∷ 0 ∷ 4 ∷ 192 ∷ 0 ∷ 2 ∷ 9 ∷ []

-- the slots once a message came from a server to a port
abbrev pub told : ℕ → ℕ → ℕ → List ℕ → Slots → Slots
told last source_port port message slots =
    after_response (arrived_by (ipv4 last) source_port port message) message slots

-- a query that sent its message to 192.0.2.1, and one that sent none
abbrev pub waits : Option DnsQuery
waits = asked Disabled (Some (ipv4 1))

abbrev pub silent : Option DnsQuery
silent = asked Disabled None

pub record ResponsesByExample : Type 0 where
  pub decided : told 1 53 1025 (response 0 97 answer) (waits ∷ []) ≡ answered 9 ∷ []
  pub other_server : told 2 53 1025 (response 0 97 answer) (waits ∷ []) ≡ waits ∷ []
  pub other_source_port : told 1 5353 1025 (response 0 97 answer) (waits ∷ []) ≡ waits ∷ []
  pub other_port : told 1 53 1026 (response 0 97 answer) (waits ∷ []) ≡ waits ∷ []
  pub before_message : told 1 53 1025 (response 0 97 answer) (silent ∷ []) ≡ silent ∷ []
  pub other_name : told 1 53 1025 (response 0 98 answer) (waits ∷ []) ≡ waits ∷ []
  pub cut_short : told 1 53 1025 (response 0 97 (0xC0 ∷ 12 ∷ [])) (waits ∷ []) ≡ waits ∷ []
  -- the first query that is reached is decided, or stays; a name that does not exist fails all
  pub first_alone : told 1 53 1025 (response 0 97 answer) (None ∷ silent ∷ waits ∷ waits ∷ [])
      ≡ None ∷ silent ∷ answered 9 ∷ waits ∷ []
  pub gone : told 1 53 1025 (response 3 97 answer) (waits ∷ silent ∷ waits ∷ [])
      ≡ failed ∷ silent ∷ failed ∷ []
  pub gone_elsewhere : told 2 53 1025 (response 3 97 answer) (waits ∷ []) ≡ waits ∷ []
  -- an error code decides nothing by itself
  pub server_failure : told 1 53 1025 (response 2 97 answer) (waits ∷ []) ≡ answered 9 ∷ []
  pub any_station : told 200 5353 1025 (response 0 97 answer) (asked Enabled (Some (ipv4 1)) ∷ [])
      ≡ answered 9 ∷ []
  pub not_by_mdns : told 1 53 1025 (response 0 97 answer) (asked Enabled (Some (ipv4 1)) ∷ [])
      ≡ asked Enabled (Some (ipv4 1)) ∷ []

-- a look so many microseconds after 0, at two servers, whose message is taken
abbrev pub at : ℕ → QueryLook
at micros = record {
  source = λ to. Some (ipv4 42);
  servers = ipv4 1 ∷ ipv4 2 ∷ [];
  now = pos micros;
  is_taken = true;
}

abbrev pub refused_at : ℕ → QueryLook
refused_at micros = record (at micros) { is_taken = false }

abbrev pub unspecified : IpAddress
unspecified = ip.Ipv4 (record { 0 = replicate 4 0 })

-- the looks at 0, 1, 3 and 7 seconds, the newest first
abbrev pub four : List QueryLook
four = at 7000000 ∷ at 3000000 ∷ at 1000000 ∷ at 0 ∷ []

-- a query in a turn
abbrev pub in_turn : ℕ → ℕ → ℕ → ℕ → IpAddress → Option DnsQuery
in_turn timeout due delay place to =
    Some (pending_with (request Disabled)
    (record {
      timeout_at = Some (pos timeout);
      retransmit_at = pos due;
      delay = delay;
      place = place;
      asked = Some to;
    }))

pub record LooksByExample : Type 0 where
  pub first : slot_behind (request Disabled) (at 0 ∷ []) ≡ in_turn 10000000 1000000 2000000 0 (ipv4 1)
  pub early : slot_behind (request Disabled) (at 999999 ∷ at 0 ∷ [])
      ≡ in_turn 10000000 1000000 2000000 0 (ipv4 1)
  pub doubles : slot_behind (request Disabled) (at 1000000 ∷ at 0 ∷ [])
      ≡ in_turn 10000000 3000000 4000000 0 (ipv4 1)
  pub longest : slot_behind (request Disabled) four ≡ in_turn 10000000 15000000 10000000 0 (ipv4 1)
  -- a turn lasts ten seconds, and ends after them
  pub lasts : slot_behind (request Disabled) (at 10000000 ∷ four)
      ≡ in_turn 10000000 15000000 10000000 0 (ipv4 1)
  pub ends : slot_behind (request Disabled) (at 10000001 ∷ four)
      ≡ in_turn 20000001 11000001 2000000 1 (ipv4 2)
  pub past : slot_behind (request Disabled) (at 20000002 ∷ at 10000001 ∷ four) ≡ failed
  pub count : messages_to 0 (request Disabled) (at 20000002 ∷ at 10000001 ∷ four) ≡ 4
  pub count_next : messages_to 1 (request Disabled) (at 20000002 ∷ at 10000001 ∷ four) ≡ 1
  -- a refused message counts for nothing
  pub refused : slot_behind (request Disabled) (at 5 ∷ refused_at 0 ∷ [])
      ≡ in_turn 10000000 1000005 2000000 0 (ipv4 1)
  pub count_refused : messages_to 0 (request Disabled) (at 5 ∷ refused_at 0 ∷ []) ≡ 1
  pub no_source : slot_behind (request Disabled) (record (at 0) { source = λ to. None } ∷ []) ≡ failed
  pub no_address : slot_behind (request Disabled) (record (at 0) { servers = unspecified ∷ [] } ∷ []) ≡ failed
