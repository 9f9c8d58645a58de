-- Four messages to a place: what the queries may still send, with what was sent, never rises above four.
use Rattle.std.proofs.Common.{◌≡◌, ℕ, zero, suc, ◌+◌, ◌≤◌, Bool, true, false, cond, eqb, List, [], ◌∷◌, length, Some, refl, sym, subst, arith}
use Rattle.std.specs.Prelude.{count_by, map, replicate, ⊤}
use Rattle.std.proofs.lemmas.Bool.{eqb-true}
use Rattle.std.proofs.lemmas.List.Sums.{sum_by-append, sum_by-cons}
use Rattle.host_model.specs.History.{Entry}
use Rattle.host_model.specs.Queries.{around_at, arrived_over, looks_at, query_count, servers_before, slots_before}
use Rattle.host_model.specs.QueryLooks.{Looks, SentAsk, ask_of}
use Rattle.host_model.specs.QuerySends.{AreRising, all_asks, is_to_place, newest_time}
use Rattle.host_model.specs.QuerySlots.{Query, Slot, Free, Live, Over, freed}
use Rattle.host_model.specs.QueryStart.{Begun}
use Rattle.host_model.specs.QueryTurns.{Look, turn_of}
use Rattle.host_model.specs.Settings.{Settings}
use Rattle.host_model.proofs.QueryArrivalLemmas.{Arrived, Heard, Refuses, Starts, Ended, NoMore, Same, EndsOne, Put, Here, There, arrives}
use Rattle.host_model.proofs.QueryPaceLemmas.{IsOpen, IsPaced, IsPacedIn, opens, paced_later, sends_paced, spare_in, spare_le, spare_sent, spare_turned}
use Rattle.host_model.proofs.QueryWalkLemmas.{Asks, Ends, Keeps, Left, LeavesFree, LeavesOver, Rest, Stays, Walked, turn_now, walks}

abbrev IsPacedSlot : ℕ → Slot → Type 0
IsPacedSlot latest Free = ⊤
IsPacedSlot latest (Live query) = IsPacedIn latest (turn_of query.looks)
IsPacedSlot latest (Over number addresses) = ⊤

abbrev ArePaced : ℕ → List Slot → Type 0
ArePaced latest [] = ⊤
ArePaced latest (slot ∷ slots) = IsPacedSlot latest slot × ArePaced latest slots

all_later : (latest later : ℕ) (slots : List Slot) → latest ≤ later → ArePaced latest slots → ArePaced later slots
all_later latest later [] on paced = tt
all_later latest later (Free ∷ slots) on paced = (tt, all_later latest later slots on paced.1)
all_later latest later (Live query ∷ slots) on paced =
    (paced_later latest later (turn_of query.looks) on paced.0, all_later latest later slots on paced.1)
all_later latest later (Over number addresses ∷ slots) on paced = (tt, all_later latest later slots on paced.1)

none_paced : (count latest : ℕ) → ArePaced latest (replicate count Free)
none_paced zero latest = tt
none_paced (suc count) latest = (tt, none_paced count latest)

-- a query that has the next number adds four messages to those that may be sent
placed : (number asked here total old new : ℕ) (same : Bool) → eqb asked number ≡ same → asked ≡ here
    → total + old ≤ 4 → (here ≤ number → total + old ≤ 0) → new ≤ old + cond (eqb asked number) 4 0
    → (total + new ≤ 4) × (suc here ≤ number → total + new ≤ 0)
placed number asked here total old new true same is few none more =
    let equal : asked ≡ number = eqb-true asked number same in
    let nothing : total + old ≤ 0 = none (omega (arith, equal, is)) in
    (grind (arith, nothing, more), λ over. absurd (omega (arith, equal, is, over)))
placed number asked here total old new false other is few none more =
    let least : new ≤ old = grind (arith, other, more) in
    (omega (arith, least, few), λ over. omega (arith, least, none (omega (arith, over))))

-- what the query with a number may still send to a place
module _ (number place : ℕ) where
  abbrev spare_at : Slot → ℕ
  spare_at Free = 0
  spare_at (Live query) = cond (eqb query.number number) (spare_in place (turn_of query.looks)) 0
  spare_at (Over ended addresses) = 0

  abbrev spare : List Slot → ℕ
  spare [] = 0
  spare (slot ∷ slots) = spare_at slot + spare slots

  none_spare : (count : ℕ) → spare (replicate count Free) ≡ 0
  none_spare zero = refl
  none_spare (suc count) = omega (arith, none_spare count)

  -- what looks leave
  record Leaves (at : ℕ) (before : ℕ) (sent : ℕ) (slots : List Slot) : Type 0 where
    paced : ArePaced at slots
    few : sent + spare slots ≤ before

  looked_spare : (at : ℕ) (query : Query)
      → cond (eqb query.number number) (spare_in place (Some (turn_now at query))) 0 ≤ spare_at (Live query)
  looked_spare at query = grind (arith, spare_turned place at (turn_of query.looks))

  kept : (at : ℕ) (slot left : Slot) → Left at slot left → IsPacedSlot at slot
      → IsPacedSlot at left × (spare_at left ≤ spare_at slot)
  kept at slot left LeavesFree paced = (tt, omega arith)
  kept at slot left (LeavesOver ended addresses) paced = (tt, omega arith)
  kept at slot left (Ends query) paced = (tt, omega arith)
  kept at slot left (Stays query) paced =
      ((opens at (turn_of query.looks) paced).paced, looked_spare at query)

  walked_few : (at : ℕ) (old new : List Slot) (asks : List SentAsk) → Walked at old new asks → ArePaced at old
      → Leaves at (spare old) (count_by (is_to_place number place) asks) new
  walked_few at old new asks (Rest slots) paced = record { paced = paced; few = omega arith }
  walked_few at old new asks (Keeps slot left more rest later leaves walked) paced =
      let one : IsPacedSlot at left × (spare_at left ≤ spare_at slot) = kept at slot left leaves paced.0 in
      let all : Leaves at (spare more) (count_by (is_to_place number place) later) rest =
      walked_few at more rest later walked paced.1 in
      record { paced = (one.0, all.paced); few = omega (arith, one.1, all.few) }
  walked_few at old new asks (Asks query from to hop more rest later due walked) paced =
      let now : IsOpen at (turn_now at query) = opens at (turn_of query.looks) paced.0 in
      let next : IsPaced at (record (turn_now at query) { sent = at ∷ (turn_now at query).sent }) =
      sends_paced at (turn_now at query) now due in
      let all : Leaves at (spare more) (count_by (is_to_place number place) later) rest =
      walked_few at more rest later walked paced.1 in
      let one : SentAsk = record { ask = ask_of query (turn_now at query).place from to; hop = hop } in
      record {
        paced = (next, all.paced);
        few = omega (
          arith,
          all.few,
          looked_spare at query,
          sum_by-cons (λ x. cond (is_to_place number place x) 1 0) one later,
          spare_sent (eqb query.number number) place (turn_now at query).place (length (turn_now at query).sent)
              next.spaced.1,
        );
      }

  -- so many messages, and what may still be sent, where so many query events were: what is reserved
  record Reserves (total count latest : ℕ) (slots : List Slot) : Type 0 where
    paced : ArePaced latest slots
    few : total + spare slots ≤ 4
    none : count ≤ number → total + spare slots ≤ 0

  record Lets (latest extra : ℕ) (old new : List Slot) : Type 0 where
    paced : ArePaced latest new
    few : spare new ≤ spare old + extra

  ended_few : (latest : ℕ) (old new : List Slot) → Ended old new → ArePaced latest old → Lets latest 0 old new
  ended_few latest old new NoMore paced = record { paced = tt; few = omega arith }
  ended_few latest old new (Same slot more rest ended) paced =
      let all : Lets latest 0 more rest = ended_few latest more rest ended paced.1 in
      record { paced = (paced.0, all.paced); few = omega (arith, all.few) }
  ended_few latest old new (EndsOne query addresses more rest ended) paced =
      let all : Lets latest 0 more rest = ended_few latest more rest ended paced.1 in
      record { paced = (tt, all.paced); few = omega (arith, all.few) }

  put_few : (latest : ℕ) (query : Query) (old new : List Slot) → query.looks ≡ [] → Put query old new
      → ArePaced latest old → Lets latest (cond (eqb query.number number) 4 0) old new
  put_few latest query old new none (Here slots) paced =
      let P : List Look → Type 0 = λ looks. IsPacedIn latest (turn_of looks) in
      record {
        paced = (subst P (sym none) tt, paced.1);
        few = grind (arith, spare_le place (turn_of query.looks));
      }
  put_few latest query old new none (There slot more rest put) paced =
      let all : Lets latest (cond (eqb query.number number) 4 0) more rest =
      put_few latest query more rest none put paced.1 in
      record { paced = (paced.0, all.paced); few = omega (arith, all.few) }

  arrived : (total here latest : ℕ) (old : List Slot) (count : ℕ) (begun : Begun) → Arrived here old count begun
      → Reserves total here latest old → Reserves total count latest begun.slots
  arrived total here latest old count begun (Heard new ended) had =
      let lets : Lets latest 0 old new = ended_few latest old new ended had.paced in
      record {
        paced = lets.paced;
        few = omega (arith, lets.few, had.few);
        none = λ over. omega (arith, lets.few, had.none over);
      }
  arrived total here latest old count begun (Refuses fault) had =
      record { paced = had.paced; few = had.few; none = λ over. had.none (omega (arith, over)) }
  arrived total here latest old count begun (Starts query new is none put) had =
      let lets : Lets latest (cond (eqb query.number number) 4 0) old new =
      put_few latest query old new none put had.paced in
      let all : (total + spare new ≤ 4) × (suc here ≤ number → total + spare new ≤ 0) =
      placed number query.number here total (spare old) (spare new) (eqb query.number number) refl is had.few had.none
      lets.few in
      record { paced = lets.paced; few = all.0; none = all.1 }

  freed_few : (latest : ℕ) (slots : List Slot) → ArePaced latest slots → Lets latest 0 slots (map freed slots)
  freed_few latest [] paced = record { paced = tt; few = omega arith }
  freed_few latest (Free ∷ slots) paced =
      let all : Lets latest 0 slots (map freed slots) = freed_few latest slots paced.1 in
      record { paced = (tt, all.paced); few = omega (arith, all.few) }
  freed_few latest (Live query ∷ slots) paced =
      let all : Lets latest 0 slots (map freed slots) = freed_few latest slots paced.1 in
      record { paced = (paced.0, all.paced); few = omega (arith, all.few) }
  freed_few latest (Over ended addresses ∷ slots) paced =
      let all : Lets latest 0 slots (map freed slots) = freed_few latest slots paced.1 in
      record { paced = (tt, all.paced); few = omega (arith, all.few) }

  abbrev sent_in : List SentAsk → ℕ
  sent_in asks = count_by (is_to_place number place) asks

  reserves : (settings : Settings) (entries : List Entry) → AreRising entries
      → Reserves (sent_in (all_asks settings entries)) (query_count entries) (newest_time entries)
      (slots_before settings entries)
  reserves settings [] rising =
      record {
        paced = none_paced 16 0;
        few = omega (arith, none_spare 16);
        none = λ over. omega (arith, none_spare 16);
      }
  reserves settings (entry ∷ before) rising =
      let total : ℕ = sent_in (all_asks settings before) in
      let at : ℕ = entry.event.at in
      let slots : List Slot = slots_before settings before in
      let had : Reserves total (query_count before) (newest_time before) slots = reserves settings before rising.1 in
      let now : Reserves total (query_count before) at slots =
      record { paced = all_later (newest_time before) at slots rising.0 had.paced; few = had.few; none = had.none } in
      let begun : Begun = arrived_over settings before entry.event entry.words slots in
      let after : Reserves total (query_count (entry ∷ before)) at begun.slots =
      arrived total (query_count before) at slots (query_count (entry ∷ before)) begun
      (arrives settings (servers_before settings before) (query_count before) entry.event.arrival entry.words slots) now in
      let looks : Looks = looks_at settings before entry.event entry.words in
      let left : Leaves at (spare begun.slots) (sent_in looks.asks) looks.slots =
      walked_few at begun.slots looks.slots looks.asks
      (walks (around_at settings before entry.event) at begun.slots false) after.paced in
      let free : Lets at 0 looks.slots (map freed looks.slots) = freed_few at looks.slots left.paced in
      let sum : sent_in (all_asks settings (entry ∷ before)) ≡ total + sent_in looks.asks =
      sum_by-append (λ x. cond (is_to_place number place x) 1 0) (all_asks settings before) looks.asks in
      record {
        paced = free.paced;
        few = omega (arith, after.few, left.few, free.few, sum);
        none = λ over. omega (arith, after.none over, left.few, free.few, sum);
      }

pub four_messages : (settings : Settings) (entries : List Entry) → AreRising entries → (number place : ℕ)
    → count_by (is_to_place number place) (all_asks settings entries) ≤ 4
four_messages settings entries rising number place =
    omega (arith, (reserves number place settings entries rising).few)
