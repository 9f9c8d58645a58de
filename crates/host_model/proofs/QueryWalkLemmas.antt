-- What the looks of an event do to the slots of queries, slot by slot.
use Rattle.std.proofs.Common.{◌≡◌, ℕ, ◌≤◌, Bool, true, false, cond, List, [], ◌∷◌, Option, Some, None, refl, arith}
use Rattle.std.specs.Prelude.{◌||◌, nat_lt, slice_get}
use Rattle.std.proofs.lemmas.Bool.{cond_both}
use Rattle.net_wire.specs.declared.address.EthernetAddress.{EthernetAddress}
use Rattle.net_wire.specs.declared.address.IpAddress.{IpAddress}
use Rattle.net_wire.specs.declared.address.IpAddress.TheVariants as ip
use Rattle.net_wire.specs.declared.address.Ipv4Address.{Ipv4Address}
use Rattle.net_wire.specs.IpAddress.{is_unspecified}
use Rattle.dns_client.specs.Looks.{places}
use Rattle.host_model.specs.QueryLooks.{Around, Fails, Waits, Looks, Seen, Kept, Named, SentAsk, ask_of, deed_at, deed_from, looked, looks_from, named_then, no_looks, seen_at, seen_by, seen_then}
use Rattle.host_model.specs.QuerySlots.{Query, Slot, Free, Live, Over, is_any_due}
use Rattle.host_model.specs.QueryTurns.{Turn, due_in, turn_at, turn_of}

-- the turn of a query at a look
abbrev pub turn_now : ℕ → Query → Turn
turn_now at query = turn_at at (turn_of query.looks)

-- what a look without a message leaves of a slot
pub data Left (at : ℕ) : Slot → Slot → Type 0 where
  LeavesFree : Left at Free Free
  LeavesOver : (number : ℕ) (addresses : List IpAddress) → Left at (Over number addresses) (Over number addresses)
  Ends : (query : Query) → Left at (Live query) (Over query.number [])
  Stays : (query : Query) → Left at (Live query) (Live (looked at None query))

-- what a look gives of one
data Shows (at : ℕ) : Slot → Seen → Type 0 where
  Quiet : (slot left : Slot) → Left at slot left → Shows at slot (Kept left)
  Sends : (query : Query) (from to : Ipv4Address) → due_in (turn_now at query).sent ≤ at
      → Shows at (Live query)
      (Named (ask_of query (turn_now at query).place from to) (looked at None query) (looked at (Some to) query))

module _ (around : Around) (at : ℕ) (query : Query) where
  by_source : (from : Option Ipv4Address) (to : IpAddress) → due_in (turn_now at query).sent ≤ at
      → Shows at (Live query) (seen_by at query (turn_now at query).place (deed_from from to))
  by_source None to due = Quiet (Live query) (Over query.number []) (Ends query)
  by_source (Some from) (ip.Ipv4 to) due = Sends query from to due
  by_source (Some from) (ip.Ipv6 to) due = Quiet (Live query) (Over query.number []) (Ends query)

  by_tests : (none late : Bool) (to : IpAddress) → nat_lt at (due_in (turn_now at query).sent) ≡ late
      → Shows at (Live query)
      (seen_by at query (turn_now at query).place (cond none Fails (cond late Waits (deed_from around.from to))))
  by_tests true late to is = Quiet (Live query) (Over query.number []) (Ends query)
  by_tests false true to is = Quiet (Live query) (Live (looked at None query)) (Stays query)
  by_tests false false to is = by_source around.from to (grind (arith, is))

  by_place : (to : Option IpAddress)
      → Shows at (Live query)
      (seen_by at query (turn_now at query).place (deed_at around.from (due_in (turn_now at query).sent) at to))
  by_place None = Quiet (Live query) (Over query.number []) (Ends query)
  by_place (Some to) = by_tests (is_unspecified to) (nat_lt at (due_in (turn_now at query).sent)) to refl

shows : (around : Around) (at : ℕ) (slot : Slot) → Shows at slot (seen_at around at slot)
shows around at Free = Quiet Free Free LeavesFree
shows around at (Live query) =
    by_place around at query (slice_get (places around.servers query.request.mdns) (turn_now at query).place)
shows around at (Over number addresses) =
    Quiet (Over number addresses) (Over number addresses) (LeavesOver number addresses)

-- what looks make of slots, and the messages that they lead to
pub data Walked (at : ℕ) : List Slot → List Slot → List SentAsk → Type 0 where
  Rest : (slots : List Slot) → Walked at slots slots []
  Keeps : (slot left : Slot) (old new : List Slot) (asks : List SentAsk) → Left at slot left
      → Walked at old new asks → Walked at (slot ∷ old) (left ∷ new) asks
  Asks : (query : Query) (from to : Ipv4Address) (hop : EthernetAddress) (old new : List Slot) (asks : List SentAsk)
      → due_in (turn_now at query).sent ≤ at → Walked at old new asks
      → Walked at (Live query ∷ old) (Live (looked at (Some to) query) ∷ new)
      (record { ask = ask_of query (turn_now at query).place from to; hop = hop } ∷ asks)

abbrev pub IsWalked : ℕ → List Slot → Looks → Type 0
IsWalked at slots looks = Walked at slots looks.slots looks.asks

by_hop : (at : ℕ) (hop : Option EthernetAddress) (query : Query) (from to : Ipv4Address) (slots : List Slot) (next : Looks)
    → due_in (turn_now at query).sent ≤ at → IsWalked at slots next
    → IsWalked at (Live query ∷ slots)
    (named_then hop (ask_of query (turn_now at query).place from to) (looked at None query) (looked at (Some to) query)
    slots next)
by_hop at None query from to slots next due walked =
    Keeps (Live query) (Live (looked at None query)) slots slots [] (Stays query) (Rest slots)
by_hop at (Some hop) query from to slots next due walked =
    Asks query from to hop slots next.slots next.asks due walked

by_sight : (at : ℕ) (hop : Ipv4Address → Option EthernetAddress) (slots : List Slot) (next : Bool → Looks)
    → ((passed : Bool) → IsWalked at slots (next passed)) → (slot : Slot) (seen : Seen) → Shows at slot seen
    → IsWalked at (slot ∷ slots) (seen_then hop seen slots next)
by_sight at hop slots next walked slot seen (Quiet one left leaves) =
    Keeps one left slots (next true).slots (next true).asks leaves (walked true)
by_sight at hop slots next walked slot seen (Sends query from to due) =
    by_hop at (hop to) query from to slots (next false) due (walked false)

pub walks : (around : Around) (at : ℕ) (slots : List Slot) (passed : Bool)
    → IsWalked at slots (looks_from around at passed slots)
walks around at [] passed = Rest []
walks around at (slot ∷ slots) passed =
    let more : (passed : Bool) → IsWalked at slots (looks_from around at passed slots) = λ passed. walks around at slots passed in
    cond_both (passed || is_any_due at (slot ∷ slots))
    (seen_then around.hop (seen_at around at slot) slots (λ passed. looks_from around at passed slots))
    (no_looks (slot ∷ slots)) (IsWalked at (slot ∷ slots))
    (λ some. by_sight at around.hop slots (λ passed. looks_from around at passed slots) more slot
    (seen_at around at slot) (shows around at slot))
    (λ none. Rest (slot ∷ slots))
