-- The looks at the queries in an event, and the messages that they lead to (RFC 1035, section 7.2).
use Rattle.std.specs.Prelude.{ℕ, nat_lt, ◌||◌, Bool, true, false, List, [], ◌∷◌, Option, Some, None, slice_get, if◌then◌else◌}
use Rattle.net_wire.specs.declared.address.EthernetAddress.{EthernetAddress}
use Rattle.net_wire.specs.declared.address.IpAddress.{IpAddress}
use Rattle.net_wire.specs.declared.address.IpAddress.TheVariants as ip
use Rattle.net_wire.specs.declared.address.Ipv4Address.{Ipv4Address}
use Rattle.net_wire.specs.IpAddress.{is_unspecified}
use Rattle.dns_client.specs.Looks.{places}
use Rattle.dns_client.specs.Waiting.{RequestValue}
use Rattle.host_model.specs.QuerySlots.{Query, Slot, Free, Live, Over, is_any_due}
use Rattle.host_model.specs.QueryTurns.{Turn, turn_of, turn_at, due_in}

-- What the looks go by: the servers, the address to send from, if one is held, and the hops.
pub record Around : Type 0 where
  pub servers : List IpAddress
  pub from : Option Ipv4Address
  pub hop : Ipv4Address → Option EthernetAddress

-- a message of a query, to a place of its list
pub record Ask : Type 0 where
  pub query : ℕ
  pub place : ℕ
  pub from : Ipv4Address
  pub to : Ipv4Address
  pub request : RequestValue

-- and the hop that it was sent to
pub record SentAsk : Type 0 where
  pub ask : Ask
  pub hop : EthernetAddress

-- what a look at a query does
pub data Deed : Type 0 where
  Fails : Deed
  Waits : Deed
  Asks : Ipv4Address → Ipv4Address → Deed

-- there is no address of IPv6 to send from
abbrev pub deed_from : Option Ipv4Address → IpAddress → Deed
deed_from None to = Fails
deed_from (Some from) (ip.Ipv4 to) = Asks from to
deed_from (Some from) (ip.Ipv6 to) = Fails

-- A query fails past the list, at a place with no address, and where there is no address to send from. It waits
-- for its due.
abbrev pub deed_at : Option Ipv4Address → ℕ → ℕ → Option IpAddress → Deed
deed_at from due at None = Fails
deed_at from due at (Some to) =
    if is_unspecified to then Fails else if nat_lt at due then Waits else deed_from from to

abbrev pub deed_in : Around → ℕ → RequestValue → Turn → Deed
deed_in around at request turn =
    deed_at around.from (due_in turn.sent) at (slice_get (places around.servers request.mdns) turn.place)

abbrev pub looked : ℕ → Option Ipv4Address → Query → Query
looked at sent_to query = record query { looks = record { at = at; sent_to = sent_to } ∷ query.looks }

abbrev pub ask_of : Query → ℕ → Ipv4Address → Ipv4Address → Ask
ask_of query place from to =
    record { query = query.number; place = place; from = from; to = to; request = query.request }

-- What a look gives: the slot that it leaves; or a message, and the query where its hop is not known, and where
-- it is sent.
pub data Seen : Type 0 where
  Kept : Slot → Seen
  Named : Ask → Query → Query → Seen

abbrev pub seen_by : ℕ → Query → ℕ → Deed → Seen
seen_by at query place Fails = Kept (Over query.number [])
seen_by at query place Waits = Kept (Live (looked at None query))
seen_by at query place (Asks from to) =
    Named (ask_of query place from to) (looked at None query) (looked at (Some to) query)

abbrev pub seen_in : Around → ℕ → Query → Turn → Seen
seen_in around at query turn = seen_by at query turn.place (deed_in around at query.request turn)

abbrev pub seen_at : Around → ℕ → Slot → Seen
seen_at around at Free = Kept Free
seen_at around at (Live query) = seen_in around at query (turn_at at (turn_of query.looks))
seen_at around at (Over number addresses) = Kept (Over number addresses)

-- What the looks of an event lead to: the slots behind them, the messages that were sent, and where one was to
-- go whose hop is not known, which ends the looks.
pub record Looks : Type 0 where
  pub slots : List Slot
  pub asks : List SentAsk
  pub unknown : Option Ipv4Address

abbrev pub no_looks : List Slot → Looks
no_looks slots = record { slots = slots; asks = []; unknown = None }

abbrev pub kept_then : Slot → Looks → Looks
kept_then slot next = record next { slots = slot ∷ next.slots }

abbrev pub named_then : Option EthernetAddress → Ask → Query → Query → List Slot → Looks → Looks
named_then None ask refused sent slots next =
    record { slots = Live refused ∷ slots; asks = []; unknown = Some ask.to }
named_then (Some hop) ask refused sent slots next = record {
  slots = Live sent ∷ next.slots;
  asks = record { ask = ask; hop = hop } ∷ next.asks;
  unknown = next.unknown;
}

abbrev pub seen_then : (Ipv4Address → Option EthernetAddress) → Seen → List Slot → (Bool → Looks) → Looks
seen_then hop (Kept slot) slots next = kept_then slot (next true)
seen_then hop (Named ask refused sent) slots next = named_then (hop ask.to) ask refused sent slots (next false)

-- In the order of the slots, a slot is looked at where it or one behind it is due, and where the slot before was
-- looked at and sent nothing.
abbrev pub looks_from : Around → ℕ → Bool → List Slot → Looks
looks_from around at passed [] = no_looks []
looks_from around at passed (slot ∷ slots) =
    if passed || is_any_due at (slot ∷ slots)
    then seen_then around.hop (seen_at around at slot) slots (λ passed. looks_from around at passed slots)
    else no_looks (slot ∷ slots)
