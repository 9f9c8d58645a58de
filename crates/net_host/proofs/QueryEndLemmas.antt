-- The slots of a host while those of the queries that ended are freed, from the last one on.
use Rattle.std.proofs.Common.{◌≡◌, ℕ, zero, suc, ◌<◌, ◌≤◌, List, [], ◌∷◌, ◌++◌, length, map, take, drop, get_or, set, Option, Some, None, refl, sym, ◌∙◌, ap, subst, arith}
use Rattle.std.proofs.lemmas.List.{map-set, set-get_or, length-map, take_all, drop_all, append-nil}
use Rattle.net_wire.specs.declared.address.IpAddress.{IpAddress}
use Rattle.dns_client.specs.Client.{Client}
use Rattle.host_model.specs.declared.query_line.Outcome.{Outcome}
use Rattle.host_model.specs.declared.query_line.QueryLine.{QueryLine}
use Rattle.host_model.specs.QueryLines.{line_of, lines_of, with_line}
use Rattle.host_model.specs.QuerySlots.{Slot, Free, Live, Over, freed}
use Rattle.net_host.specs.QueryStanding.{StandAs, TakesEnded, standing_in, number_in, outcome_in, slot_at}

-- those from a place on are freed
abbrev pub freed_from : ℕ → List Slot → List Slot
freed_from at slots = take at slots ++ map freed (drop at slots)

-- the client, the numbers and the lines then
pub record HasFreed (servers : List IpAddress) (slots : List Slot) (at : ℕ) (client : Client) (numbers : List ℕ)
    (lines : List QueryLine) : Type 0 where
  pub stand : StandAs servers (freed_from at slots) client numbers
  pub lines_are : lines ≡ lines_of (drop at slots)
  pub inside : at ≤ length slots

freed_step : (slots : List Slot) (at : ℕ) → at < length slots
    → set (freed_from (suc at) slots) at (freed (slot_at slots at)) ≡ freed_from at slots
freed_step [] at inside = absurd (omega arith)
freed_step (one ∷ slots) zero inside = refl
freed_step (one ∷ slots) (suc at) inside = ap (λ more. one ∷ more) (freed_step slots at (omega (arith, inside)))

slot_there : (slots : List Slot) (at : ℕ) → slot_at (freed_from (suc at) slots) at ≡ slot_at slots at
slot_there [] at = refl
slot_there (one ∷ slots) zero = refl
slot_there (one ∷ slots) (suc at) = slot_there slots at

dropped : (slots : List Slot) (at : ℕ) → at < length slots → drop at slots ≡ slot_at slots at ∷ drop (suc at) slots
dropped [] at inside = absurd (omega arith)
dropped (one ∷ slots) zero inside = refl
dropped (one ∷ slots) (suc at) inside = dropped slots at (omega (arith, inside))

number_there : (slots : List Slot) (at : ℕ) → get_or (map number_in slots) at 0 ≡ number_in (slot_at slots at)
number_there [] at = refl
number_there (one ∷ slots) zero = refl
number_there (one ∷ slots) (suc at) = number_there slots at

-- a query that did not end stays, and gives no line
stays : (slot : Slot) → None ≡ outcome_in slot → freed slot ≡ slot
stays Free none = refl
stays (Live query) none = refl
stays (Over number addresses) none = let no : ⊥ = cc in absurd no

no_line : (slot : Slot) (slots : List Slot) → None ≡ outcome_in slot → lines_of (slot ∷ slots) ≡ lines_of slots
no_line Free slots none = refl
no_line (Live query) slots none = refl
no_line (Over number addresses) slots none = let no : ⊥ = cc in absurd no

-- one that ended leaves its slot free, and gives its line
free_number : (slot : Slot) (outcome : Outcome) → Some outcome ≡ outcome_in slot → 0 ≡ number_in (freed slot)
free_number Free outcome some = let no : ⊥ = cc in absurd no
free_number (Live query) outcome some = let no : ⊥ = cc in absurd no
free_number (Over number addresses) outcome some = refl

one_line : (slot : Slot) (slots : List Slot) (outcome : Outcome) → Some outcome ≡ outcome_in slot
    → with_line (line_of (number_in slot) outcome) (lines_of slots) ≡ lines_of (slot ∷ slots)
one_line Free slots outcome some = let no : ⊥ = cc in absurd no
one_line (Live query) slots outcome some = let no : ⊥ = cc in absurd no
one_line (Over number addresses) slots outcome some =
    let same : outcome ≡ _ = cc in ap (λ o. with_line (line_of number o) (lines_of slots)) same

module _ (servers : List IpAddress) (slots : List Slot) (at : ℕ) (old new : Client) (numbers : List ℕ)
    (lines : List QueryLine) (before : HasFreed servers slots (suc at) old numbers lines)
    (others : new ≡ record old { slots = new.slots }) where
  inside : at < length slots
  inside = omega (arith, before.inside)

  -- the slots with the one at the place freed
  slots_are : (outcome : Option Outcome) → TakesEnded (freed_from (suc at) slots) at outcome new.slots
      → new.slots ≡ map standing_in (freed_from at slots)
  slots_are outcome takes =
      takes.freed_is
      ∙ ap (λ slot. map standing_in (set (freed_from (suc at) slots) at (freed slot))) (slot_there slots at)
      ∙ ap (map standing_in) (freed_step slots at inside)

  outcome_is : (outcome : Option Outcome) → TakesEnded (freed_from (suc at) slots) at outcome new.slots
      → outcome ≡ outcome_in (slot_at slots at)
  outcome_is outcome takes = takes.outcome_is ∙ ap outcome_in (slot_there slots at)

  stand_with : (outcome : Option Outcome) → TakesEnded (freed_from (suc at) slots) at outcome new.slots
      → (numbers_then : List ℕ) → numbers_then ≡ map number_in (freed_from at slots)
      → StandAs servers (freed_from at slots) new numbers_then
  stand_with outcome takes numbers_then is = record {
    servers_are = ap (λ client. client.servers) others ∙ before.stand.servers_are;
    slots_are = slots_are outcome takes;
    numbers_are = is;
    no_hop_limit = ap (λ client. client.hop_limit) others ∙ before.stand.no_hop_limit;
  }

  -- the numbers with that of the place
  numbers_with : (number : ℕ) → number ≡ number_in (freed (slot_at slots at))
      → set numbers at number ≡ map number_in (freed_from at slots)
  numbers_with number is =
      ap (λ list. set list at number) before.stand.numbers_are
      ∙ ap (set (map number_in (freed_from (suc at) slots)) at) is
      ∙ sym (map-set number_in (freed_from (suc at) slots) at (freed (slot_at slots at)))
      ∙ ap (map number_in) (freed_step slots at inside)

  number_is : get_or numbers at 0 ≡ number_in (slot_at slots at)
  number_is =
      ap (λ list. get_or list at 0) before.stand.numbers_are ∙ number_there (freed_from (suc at) slots) at
      ∙ ap number_in (slot_there slots at)

  pub none_freed : TakesEnded (freed_from (suc at) slots) at None new.slots → HasFreed servers slots at new numbers lines
  none_freed takes =
      let none = outcome_is None takes in
      record {
        stand = stand_with None takes numbers
            (sym (set-get_or numbers at 0)
            ∙ numbers_with (get_or numbers at 0) (number_is ∙ sym (ap number_in (stays (slot_at slots at) none))));
        lines_are = before.lines_are ∙ sym (no_line (slot_at slots at) (drop (suc at) slots) none)
            ∙ sym (ap lines_of (dropped slots at inside));
        inside = omega (arith, before.inside);
      }

  pub one_freed : (outcome : Outcome) → TakesEnded (freed_from (suc at) slots) at (Some outcome) new.slots
      → HasFreed servers slots at new (set numbers at 0) (with_line (line_of (get_or numbers at 0) outcome) lines)
  one_freed outcome takes =
      let some = outcome_is (Some outcome) takes in
      record {
        stand = stand_with (Some outcome) takes (set numbers at 0)
            (numbers_with 0 (free_number (slot_at slots at) outcome some));
        lines_are = ap (λ number. with_line (line_of number outcome) lines) number_is
            ∙ ap (with_line (line_of (number_in (slot_at slots at)) outcome)) before.lines_are
            ∙ one_line (slot_at slots at) (drop (suc at) slots) outcome some
            ∙ sym (ap lines_of (dropped slots at inside));
        inside = omega (arith, before.inside);
      }

-- at first nothing is freed
pub nothing_freed : (servers : List IpAddress) (slots : List Slot) (client : Client) (numbers : List ℕ)
    → StandAs servers slots client numbers → HasFreed servers slots (length numbers) client numbers []
nothing_freed servers slots client numbers stand =
    let same : length numbers ≡ length slots = ap length stand.numbers_are ∙ length-map slots number_in in
    let all : freed_from (length numbers) slots ≡ slots =
    ap (λ at. freed_from at slots) same
    ∙ ap (λ front. front ++ map freed (drop (length slots) slots)) (take_all (length slots) slots (omega arith))
    ∙ ap (λ rest. slots ++ map freed rest) (drop_all (length slots) slots (omega arith)) ∙ append-nil slots in
    record {
      stand = subst (λ list. StandAs servers list client numbers) (sym all) stand;
      lines_are = sym (ap lines_of (ap (λ at. drop at slots) same ∙ drop_all (length slots) slots (omega arith)));
      inside = omega (arith, same);
    }
