-- Looks at queries (RFC 1035, section 7.2; RFC 6762, section 5.1): where a look finds a query due, its next
-- message is sent.
use Rattle.std.specs.Prelude.{◌≡◌, ℕ, ◌+◌, List, [], ◌∷◌, ◌++◌, length, replicate, Option, Some, None, Result, Ok, OnOk, OnErr, ℤ, int_lt, slice_get, if◌then◌else◌}
use Rattle.net_wire.specs.declared.address.IpAddress.{IpAddress}
use Rattle.net_wire.specs.declared.address.IpAddress.TheVariants as ip
use Rattle.net_wire.specs.declared.error.EmitError.{EmitError}
use Rattle.net_wire.specs.declared.protocol.IpProtocol.TheVariants.{Udp}
use Rattle.net_wire.specs.DnsMessage.{query_bytes}
use Rattle.net_wire.specs.IpAddress.{is_unspecified}
use Rattle.dns_client.specs.declared.query.MulticastDns.{MulticastDns}
use Rattle.dns_client.specs.declared.query.MulticastDns.TheVariants.{Disabled, Enabled}
use Rattle.dns_client.specs.declared.query.DnsQuery.{DnsQuery}
use Rattle.dns_client.specs.declared.query.QueryState.{QueryState}
use Rattle.dns_client.specs.declared.query.QueryState.TheVariants.{Pending, Answered, Failed}
use Rattle.dns_client.specs.declared.query.Turn.{Turn}
use Rattle.dns_client.specs.declared.look.Route.{Route}
use Rattle.dns_client.specs.Emit.{Outgoing, Emitted}
use Rattle.dns_client.specs.Response.{failed}
use Rattle.dns_client.specs.Slots.{Slots}
use Rattle.dns_client.specs.Turns.{turned, sent_to}
use Rattle.dns_client.specs.Waiting.{RequestValue, Waiting}

-- The list that a query asks: the servers by port 53, or the groups of mDNS, ff02::fb and 224.0.0.251, by
-- port 5353 (RFC 6762, section 3).
abbrev pub groups : List IpAddress
groups =
    ip.Ipv6 (record { 0 = 0xff ∷ 2 ∷ replicate 13 0 ++ 0xfb ∷ [] })
    ∷ ip.Ipv4 (record { 0 = 224 ∷ 0 ∷ 0 ∷ 251 ∷ [] }) ∷ []

abbrev pub places : List IpAddress → MulticastDns → List IpAddress
places servers Disabled = servers
places servers Enabled = groups

abbrev pub port_of : MulticastDns → ℕ
port_of Disabled = 53
port_of Enabled = 5353

-- what a look does: pass a slot with no query that waits, keep the query with this turn, end it, or ask: the
-- request, the source, the destination, and the turn where the message is refused, and where it is taken
pub data Choice : Type 0 where
  Pass : Choice
  Keep : Turn → Choice
  Fail : Choice
  Ask : RequestValue → IpAddress → IpAddress → Turn → Turn → Choice

abbrev pub choice_from : RequestValue → ℤ → Turn → IpAddress → Option IpAddress → Choice
choice_from request now turn to None = Fail
choice_from request now turn to (Some from) = Ask request from to turn (sent_to to now turn)

-- A query ends past the list, at a place with no address, and where there is no source address. It waits for
-- its due.
abbrev pub choice_at : (IpAddress → Option IpAddress) → RequestValue → ℤ → Turn → Option IpAddress → Choice
choice_at source request now turn None = Fail
choice_at source request now turn (Some to) =
    if is_unspecified to then Fail else if int_lt now turn.retransmit_at then Keep turn
    else choice_from request now turn to (source to)

abbrev pub choice_for : (IpAddress → Option IpAddress) → List IpAddress → ℤ → Waiting → Choice
choice_for source servers now waiting =
    let turn = turned now waiting.turn in
    choice_at source waiting.request now turn (slice_get (places servers waiting.request.mdns) turn.place)

abbrev pub look_in : (IpAddress → Option IpAddress) → List IpAddress → ℤ → QueryState → Choice
look_in source servers now (Pending waiting) = choice_for source servers now waiting
look_in source servers now (Answered addresses) = Pass
look_in source servers now Failed = Pass

abbrev pub look : (IpAddress → Option IpAddress) → List IpAddress → ℤ → Option DnsQuery → Choice
look source servers now None = Pass
look source servers now (Some query) = look_in source servers now query.state

-- a slot with another turn of its query, if that waits
abbrev pub state_with : Turn → QueryState → QueryState
state_with turn (Pending waiting) = Pending (record { request = waiting.request; turn = turn })
state_with turn (Answered addresses) = Answered addresses
state_with turn Failed = Failed

abbrev pub with_turn : Turn → Option DnsQuery → Option DnsQuery
with_turn turn None = None
with_turn turn (Some query) = Some (record { state = state_with turn query.state })

-- The looks of one call, in the order of the slots: none asks, and the slots are left so; or one does, with
-- the slots passed before it, its slot, what it asks, and the slots that are not looked at.
pub data Walk : Type 0 where
  Quiet : Slots → Walk
  Sends : Slots → Option DnsQuery → RequestValue → IpAddress → IpAddress → Turn → Turn → Slots → Walk

abbrev pub behind : Slots → Walk → Walk
behind front (Quiet slots) = Quiet (front ++ slots)
behind front (Sends passed slot request from to before after rest) =
    Sends (front ++ passed) slot request from to before after rest

abbrev pub walk_on : Option DnsQuery → Choice → Slots → Walk → Walk
walk_on slot Pass rest next = behind (slot ∷ []) next
walk_on slot (Keep turn) rest next = behind (with_turn turn slot ∷ []) next
walk_on slot Fail rest next = behind (failed ∷ []) next
walk_on slot (Ask request from to before after) rest next = Sends [] slot request from to before after rest

abbrev pub walk : (Option DnsQuery → Choice) → Slots → Walk
walk plan [] = Quiet []
walk plan (slot ∷ slots) = walk_on slot (plan slot) slots (walk plan slots)

-- the message of a request on a route
abbrev pub message_for : Route → RequestValue → Outgoing
message_for route request =
    let payload = query_bytes request.id (record { name = request.name; type_ = request.type_ }) in
    record {
      slot = route.slot;
      place = route.place;
      ip = record {
        src_addr = route.from;
        dst_addr = route.to;
        next_header = Udp;
        payload_len = length request.name + 24;
        hop_limit = route.hop_limit;
      };
      udp = record { src_port = request.port; dst_port = port_of request.mdns };
      payload = payload;
    }

-- A walk carried out: on the slots, `new` after it, and on the emitter, `out` before and `later` after it.
-- Where it asks, one message is handed over, and the turn of its query goes by the answer.
abbrev pub Dispatched : {E : Type 0} → (E → E → Outgoing → Type 0) → (E → E → Outgoing → Type 0) → ℕ → Walk
    → Result (Unit {0}) EmitError → Slots → E → E → Type 0
Dispatched took refused hop_limit (Quiet slots) result new out later =
    (result ≡ Ok tt) × (new ≡ slots) × (later ≡ out)
Dispatched took refused hop_limit (Sends front slot request from to before after rest) result new out later =
    Emitted took refused
    (message_for (record {
      slot = length front;
      place = before.place;
      from = from;
      to = to;
      hop_limit = hop_limit;
    }) request)
    result out later
    × OnOk result (new ≡ front ++ with_turn after slot ∷ rest)
    × OnErr result (new ≡ front ++ with_turn before slot ∷ rest)
