-- Closed examples of responses to the queries of a host; the messages are those of the DNS client's examples.
use Rattle.std.specs.Prelude.{◌≡◌, ℕ, List, [], ◌∷◌, drop, replicate, take}
use Rattle.net_wire.specs.Datagram.{Datagram}
use Rattle.dns_client.specs.declared.query.MulticastDns.TheVariants.{Disabled}
use Rattle.dns_client.specs.Examples.{ipv4}
use Rattle.dns_client.specs.QueryExamples.{answer, request, response}
use Rattle.dns_client.specs.Waiting.{RequestValue}
use Rattle.host_model.specs.LookExamples.{address, new, server}
use Rattle.host_model.specs.QueryAnswers.{after_datagram}
use Rattle.host_model.specs.QuerySlots.{Slot, Free, Live, Over}
use Rattle.host_model.specs.WalkExamples.{seen_at, sent_at, waiting}

-- a message from port 53 of a server to the port of the queries
abbrev pub from_server : ℕ → List ℕ → Datagram
from_server last message = record {
  source = address last;
  destination = address 42;
  source_port = 53;
  destination_port = 1025;
  payload = message;
}

-- the slots behind a datagram, where 192.168.1.53 and 192.168.1.54 are the servers
abbrev pub told : Datagram → List Slot → List Slot
told datagram slots = after_datagram (server 53 ∷ server 54 ∷ []) datagram slots

-- the response with the address 192.0.2.9, and the one that the name does not exist
abbrev pub right : Datagram
right = from_server 53 (response 0 97 answer)

abbrev pub no_name : Datagram
no_name = from_server 53 (response 3 97 [])

-- an answer with an address of IPv6
abbrev pub answer6 : List ℕ
answer6 = 0xC0 ∷ 12 ∷ 0 ∷ 28 ∷ 0 ∷ 1 ∷ 0 ∷ 0 ∷ 0 ∷ 60 ∷ 0 ∷ 16 ∷ replicate 16 1

-- a query that asked the first server, and one that asked the second one after it
abbrev pub waits : ℕ → Slot
waits number = waiting number (sent_at 0 53 ∷ [])

abbrev pub went_on : Slot
went_on = waiting 0 (seen_at 12 ∷ sent_at 11 54 ∷ sent_at 0 53 ∷ [])

-- one with another request
abbrev pub other : RequestValue → Slot
other request = Live (record { number = 1; request = request; looks = sent_at 0 53 ∷ [] })

abbrev pub other_id : Slot
other_id = other (record (request Disabled) { id = 8 })

abbrev pub other_port : Slot
other_port = other (record (request Disabled) { port = 1026 })

-- that asks for the name `b`
abbrev pub other_name : Slot
other_name = other (record (request Disabled) { name = 1 ∷ 98 ∷ 0 ∷ [] })

abbrev pub answered : ℕ → Slot
answered number = Over number (ipv4 9 ∷ [])

-- nothing is said to a query
abbrev pub IsUntold : Datagram → Slot → Type 0
IsUntold datagram slot = told datagram (slot ∷ []) ≡ slot ∷ []

pub record AnswersByExample : Type 0 where
  pub answers : told right (waits 0 ∷ []) ≡ answered 0 ∷ []
  pub before_message : IsUntold right (new 0)
  pub before_known_hop : IsUntold right (waiting 0 (seen_at 0 ∷ []))
  pub other_server : IsUntold (from_server 54 (response 0 97 answer)) (waits 0)
  pub no_server : IsUntold (from_server 55 (response 0 97 answer)) (waits 0)
  pub no_longer_listed : after_datagram (server 54 ∷ []) right (waits 0 ∷ []) ≡ waits 0 ∷ []
  pub other_source_port : IsUntold (record right { source_port = 54 }) (waits 0)
  pub by_mdns : IsUntold (record right { source_port = 5353 }) (waits 0)
  pub to_other_port : IsUntold right other_port
  pub with_other_id : IsUntold right other_id
  pub of_other_name : IsUntold right other_name
  pub cut_short : IsUntold (from_server 53 (take 11 (response 3 97 []))) (waits 0)
  pub no_response : IsUntold (from_server 53 (0 ∷ 7 ∷ 1 ∷ 3 ∷ drop 4 (response 3 97 []))) (waits 0)
  -- only the server that was asked last
  pub earlier_server : IsUntold right went_on
  pub last_server : told (from_server 54 (response 0 97 answer)) (went_on ∷ []) ≡ answered 0 ∷ []

-- A name that does not exist ends each query that is reached; an answer ends the first one, if it is its own,
-- and no other. Without an address it fails.
pub record ReachesByExample : Type 0 where
  pub gone : told no_name (waits 0 ∷ Free ∷ new 2 ∷ other_id ∷ Over 3 [] ∷ waits 4 ∷ [])
      ≡ Over 0 [] ∷ Free ∷ new 2 ∷ other_id ∷ Over 3 [] ∷ Over 4 [] ∷ []
  pub gone_elsewhere : told (from_server 54 (response 3 97 [])) (waits 0 ∷ []) ≡ waits 0 ∷ []
  pub first : told right (Free ∷ new 0 ∷ other_id ∷ waits 2 ∷ waits 3 ∷ [])
      ≡ Free ∷ new 0 ∷ other_id ∷ answered 2 ∷ waits 3 ∷ []
  pub first_undecided : told right (other_name ∷ waits 2 ∷ []) ≡ other_name ∷ waits 2 ∷ []
  pub no_address : told (from_server 53 (response 2 97 answer6)) (waits 0 ∷ []) ≡ Over 0 [] ∷ []
