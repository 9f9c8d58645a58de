-- One line each: only a query event adds to the queries that have a line or wait, and it adds one.
use Rattle.std.proofs.Common.{◌≡◌, ℕ, zero, suc, ◌+◌, ◌≤◌, false, cond, eqb, ltb, List, [], ◌∷◌, refl, ◌∙◌, subst, arith}
use Rattle.std.specs.Prelude.{count_by, map, nat_lt, replicate}
use Rattle.std.proofs.lemmas.Bool.{cond_both}
use Rattle.std.proofs.lemmas.List.Sums.{sum_by-append, sum_by-cons}
use Rattle.host_model.specs.declared.query_line.QueryLine.{QueryLine}
use Rattle.host_model.specs.History.{Entry}
use Rattle.host_model.specs.Queries.{around_at, arrived_over, lines_at, looks_at, query_count, servers_before, slots_before}
use Rattle.host_model.specs.QueryEnds.{all_lines, is_line_of, is_waiting}
use Rattle.host_model.specs.QueryLines.{line_of, lines_of, outcome_of, refused_lines, with_line}
use Rattle.host_model.specs.QueryLooks.{Looks, SentAsk}
use Rattle.host_model.specs.QuerySlots.{Query, Slot, Free, Live, Over, freed}
use Rattle.host_model.specs.QueryStart.{Begun}
use Rattle.host_model.specs.Settings.{Settings}
use Rattle.host_model.proofs.QueryArrivalLemmas.{Arrived, Heard, Refuses, Starts, Ended, NoMore, Same, EndsOne, Put, Here, There, arrives}
use Rattle.host_model.proofs.QueryWalkLemmas.{Asks, Ends, Keeps, Left, LeavesFree, LeavesOver, Rest, Stays, Walked, walks}

-- so many query events make so many queries with a number
abbrev one_of : ℕ → ℕ → ℕ
one_of number count = cond (ltb number count) 1 0

one_more : (number here : ℕ) → cond (eqb here number) 1 0 + one_of number here ≡ one_of number (suc here)
one_more number here = grind arith

none_of : (number : ℕ) → one_of number 0 ≡ 0
none_of number = grind arith

module _ (number : ℕ) where
  -- the query with the number waits in a slot; it ended there in this event
  abbrev pub waits_at : Slot → ℕ
  waits_at slot = cond (is_waiting number slot) 1 0

  abbrev ends_at : Slot → ℕ
  ends_at Free = 0
  ends_at (Live query) = 0
  ends_at (Over ended addresses) = cond (eqb ended number) 1 0

  abbrev pub waits : List Slot → ℕ
  waits [] = 0
  waits (slot ∷ slots) = waits_at slot + waits slots

  abbrev pub ends : List Slot → ℕ
  ends [] = 0
  ends (slot ∷ slots) = ends_at slot + ends slots

  pub waits_is : (slots : List Slot) → count_by (is_waiting number) slots ≡ waits slots
  waits_is [] = refl
  waits_is (slot ∷ slots) = sum_by-cons waits_at slot slots ∙ (omega (arith, waits_is slots))

  none_waits : (count : ℕ) → waits (replicate count Free) ≡ 0
  none_waits zero = refl
  none_waits (suc count) = omega (arith, none_waits count)

  none_ends : (count : ℕ) → ends (replicate count Free) ≡ 0
  none_ends zero = refl
  none_ends (suc count) = omega (arith, none_ends count)

  -- those that wait or ended, before and behind
  abbrev IsKept : List Slot → List Slot → Type 0
  IsKept old new = waits new + ends new ≡ waits old + ends old

  kept : (at : ℕ) (slot left : Slot) → Left at slot left → waits_at left + ends_at left ≡ waits_at slot + ends_at slot
  kept at slot left LeavesFree = refl
  kept at slot left (LeavesOver ended addresses) = refl
  kept at slot left (Ends query) = omega arith
  kept at slot left (Stays query) = refl

  walked_kept : (at : ℕ) (old new : List Slot) (asks : List SentAsk) → Walked at old new asks → IsKept old new
  walked_kept at old new asks (Rest slots) = refl
  walked_kept at old new asks (Keeps slot left more rest later leaves walked) =
      omega (arith, kept at slot left leaves, walked_kept at more rest later walked)
  walked_kept at old new asks (Asks query from to hop more rest later due walked) =
      omega (arith, walked_kept at more rest later walked)

  ended_kept : (old new : List Slot) → Ended old new → IsKept old new
  ended_kept old new NoMore = refl
  ended_kept old new (Same slot more rest ended) = omega (arith, ended_kept more rest ended)
  ended_kept old new (EndsOne query addresses more rest ended) = omega (arith, ended_kept more rest ended)

  put_one : (query : Query) (old new : List Slot) → Put query old new
      → waits new + ends new ≡ waits old + ends old + cond (eqb query.number number) 1 0
  put_one query old new (Here slots) = omega arith
  put_one query old new (There slot more rest put) = omega (arith, put_one query more rest put)

  -- the lines of those that ended
  abbrev told : List QueryLine → ℕ
  told lines = count_by (is_line_of number) lines

  abbrev told_by : QueryLine → ℕ
  told_by line = cond (is_line_of number line) 1 0

  told_cons : (line : QueryLine) (lines : List QueryLine) → told (line ∷ lines) ≡ told_by line + told lines
  told_cons line lines = sum_by-cons told_by line lines

  told_with : (line : QueryLine) (lines : List QueryLine) → told (with_line line lines) ≡ told_by line + told lines
  told_with line [] = told_cons line []
  told_with line (one ∷ lines) =
      cond_both (nat_lt line.query one.query) (line ∷ one ∷ lines) (one ∷ with_line line lines)
      (λ all. told all ≡ told_by line + told (one ∷ lines))
      (λ below. told_cons line (one ∷ lines))
      (λ above. omega (arith, told_cons one (with_line line lines), told_with line lines, told_cons one lines))

  told_ends : (slots : List Slot) → told (lines_of slots) ≡ ends slots
  told_ends [] = refl
  told_ends (Free ∷ slots) = omega (arith, told_ends slots)
  told_ends (Live query ∷ slots) = omega (arith, told_ends slots)
  told_ends (Over ended addresses ∷ slots) =
      omega (arith, told_with (line_of ended (outcome_of addresses)) (lines_of slots), told_ends slots)

  freed_waits : (slots : List Slot) → waits (map freed slots) ≡ waits slots
  freed_waits [] = refl
  freed_waits (Free ∷ slots) = omega (arith, freed_waits slots)
  freed_waits (Live query ∷ slots) = omega (arith, freed_waits slots)
  freed_waits (Over ended addresses ∷ slots) = omega (arith, freed_waits slots)

  freed_ends : (slots : List Slot) → ends (map freed slots) ≡ 0
  freed_ends [] = refl
  freed_ends (Free ∷ slots) = omega (arith, freed_ends slots)
  freed_ends (Live query ∷ slots) = omega (arith, freed_ends slots)
  freed_ends (Over ended addresses ∷ slots) = omega (arith, freed_ends slots)

  arrived_one : (here : ℕ) (old : List Slot) (count : ℕ) (begun : Begun) → Arrived here old count begun
      → told (refused_lines here begun.refused) + waits begun.slots + ends begun.slots + one_of number here
      ≡ waits old + ends old + one_of number count
  arrived_one here old count begun (Heard new ended) = omega (arith, ended_kept old new ended)
  arrived_one here old count begun (Refuses fault) = omega (arith, one_more number here)
  arrived_one here old count begun (Starts query new is none put) =
      let P : ℕ → Type 0 = λ n. waits new + ends new ≡ waits old + ends old + cond (eqb n number) 1 0 in
      omega (arith, one_more number here, subst P is (put_one query old new put))

  -- nothing ended before an event, and those that wait have no line
  record IsOneEach (settings : Settings) (entries : List Entry) : Type 0 where
    over : ends (slots_before settings entries) ≡ 0
    one : told (all_lines settings entries) + waits (slots_before settings entries) ≡ one_of number (query_count entries)

  one_each : (settings : Settings) (entries : List Entry) → IsOneEach settings entries
  one_each settings [] = record { over = none_ends 16; one = omega (arith, none_waits 16, none_of number) }
  one_each settings (entry ∷ before) =
      let slots : List Slot = slots_before settings before in
      let had : IsOneEach settings before = one_each settings before in
      let begun : Begun = arrived_over settings before entry.event entry.words slots in
      let looks : Looks = looks_at settings before entry.event entry.words in
      let came : told (refused_lines (query_count before) begun.refused) + waits begun.slots + ends begun.slots
      + one_of number (query_count before)
      ≡ waits slots + ends slots + one_of number (query_count (entry ∷ before)) =
      arrived_one (query_count before) slots (query_count (entry ∷ before)) begun
      (arrives settings (servers_before settings before) (query_count before) entry.event.arrival entry.words slots) in
      let left : IsKept begun.slots looks.slots =
      walked_kept entry.event.at begun.slots looks.slots looks.asks
      (walks (around_at settings before entry.event) entry.event.at begun.slots false) in
      let lines : told (lines_at settings before entry.event entry.words)
      ≡ told (refused_lines (query_count before) begun.refused) + told (lines_of looks.slots) =
      sum_by-append told_by (refused_lines (query_count before) begun.refused) (lines_of looks.slots) in
      let all : told (all_lines settings (entry ∷ before))
      ≡ told (all_lines settings before) + told (lines_at settings before entry.event entry.words) =
      sum_by-append told_by (all_lines settings before) (lines_at settings before entry.event entry.words) in
      record {
        over = freed_ends looks.slots;
        one = omega (arith, came, left, lines, all, told_ends looks.slots, freed_waits looks.slots, had.over, had.one);
      }

  pub one_line : (settings : Settings) (entries : List Entry)
      → count_by (is_line_of number) (all_lines settings entries)
      + count_by (is_waiting number) (slots_before settings entries)
      ≡ cond (nat_lt number (query_count entries)) 1 0
  one_line settings entries =
      omega (arith, (one_each settings entries).one, waits_is (slots_before settings entries))

  -- so at most one waits
  pub one_waits : (settings : Settings) (entries : List Entry) → waits (slots_before settings entries) ≤ 1
  one_waits settings entries = grind (arith, (one_each settings entries).one)

  pub none_waits_yet : (settings : Settings) (entries : List Entry) → query_count entries ≤ number
      → waits (slots_before settings entries) ≡ 0
  none_waits_yet settings entries yet = grind (arith, (one_each settings entries).one, yet)
