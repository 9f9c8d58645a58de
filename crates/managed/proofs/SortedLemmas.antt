-- Places are sorted where each is before the next.
use Rattle.std.proofs.Common.{◌≡◌, ℕ, zero, suc, ◌+◌, ◌<◌, List, [], ◌∷◌, length, get_or, Option, Some, None, ⊎_elim, sym, ◌∙◌, arith}
use Rattle.std.specs.declared.cmp.Ordering.{Ordering}
use Rattle.std.specs.declared.cmp.Ordering.TheVariants.{Less}
use Rattle.std.specs.Cmp.{IsTotalOrder}
use Rattle.std.specs.List.Sorted.{IsStrictlySortedBy}
use Rattle.std.specs.Map.{keys_of}
use Rattle.std.proofs.lemmas.Bool.{cases_lt}
use Rattle.std.proofs.lemmas.List.{get_or_default}
use Rattle.managed.specs.SortedMap.{filled, IsSortedPlaces, Precedes}
use Rattle.managed.proofs.OrderLemmas.{all_map}
use Rattle.managed.proofs.PackedLemmas.{filled_vacant, packed_vacant}

module _ {K V : Type 0} {cmp : K → K → Ordering} (total : IsTotalOrder cmp) where
  -- each place before the next is enough
  pub sorted_from_steps : (places : List (Option (K × V))) → ((k : ℕ) → suc k < length places → Precedes cmp (get_or places k None) (get_or places (suc k) None)) → IsSortedPlaces cmp places
  unfolding IsStrictlySortedBy
  sorted_from_steps [] steps = (tt, tt)
  sorted_from_steps (None ∷ []) steps = (tt, tt)
  sorted_from_steps (Some e ∷ []) steps = (tt, (tt, tt))
  sorted_from_steps (None ∷ None ∷ places) steps = ((sorted_from_steps (None ∷ places) (λ k lt. steps (suc k) (omega arith))).0, tt)
  sorted_from_steps (None ∷ Some f ∷ places) steps = absurd (steps 0 (omega arith))
  sorted_from_steps (Some e ∷ None ∷ places) steps = ((sorted_from_steps (None ∷ places) (λ k lt. steps (suc k) (omega arith))).0, (tt, tt))
  sorted_from_steps (Some e ∷ Some f ∷ places) steps =
      let rest = sorted_from_steps (Some f ∷ places) (λ k lt. steps (suc k) (omega arith)) in
      let first : cmp e.0 f.0 ≡ Less = steps 0 (omega arith) in
      (rest.0, ((first, all_map (λ y h. total.trans e.0 f.0 y first h) (keys_of (filled places)) rest.1.0), rest.1))

  pub steps_from_sorted : (places : List (Option (K × V))) → IsSortedPlaces cmp places → (k : ℕ) → suc k < length places → Precedes cmp (get_or places k None) (get_or places (suc k) None)
  unfolding IsStrictlySortedBy
  steps_from_sorted [] sorted k lt = absurd (omega arith)
  steps_from_sorted (x ∷ []) sorted k lt = absurd (omega arith)
  steps_from_sorted (None ∷ None ∷ places) sorted zero lt = tt
  steps_from_sorted (None ∷ Some f ∷ places) sorted zero lt = absurd sorted.0
  steps_from_sorted (Some e ∷ None ∷ places) sorted zero lt = tt
  steps_from_sorted (Some e ∷ Some f ∷ places) sorted zero lt = sorted.1.0.0
  steps_from_sorted (None ∷ y ∷ places) sorted (suc k) lt = steps_from_sorted (y ∷ places) (packed_vacant (y ∷ places) sorted.0, rw (filled_vacant (y ∷ places) sorted.0) tt) k (omega arith)
  steps_from_sorted (Some e ∷ y ∷ places) sorted (suc k) lt = steps_from_sorted (y ∷ places) (sorted.0, sorted.1.1) k (omega arith)

  -- of two places that were read, one after the other
  pub steps_at : (places : List (Option (K × V))) (i at : ℕ) (a b : Option (K × V)) → at ≡ suc i → at < length places → a ≡ get_or places i a → b ≡ get_or places at b → IsSortedPlaces cmp places → Precedes cmp a b
  steps_at places i at a b next lt read_a read_b sorted =
      let first : a ≡ get_or places i None = read_a ∙ get_or_default places i a None (omega arith) in
      let second : b ≡ get_or places (suc i) None = rw (sym next) (read_b ∙ get_or_default places at b None lt) in
      rw (first, second) (steps_from_sorted places sorted i (omega arith))

  -- and what is read so far goes one place further
  pub steps_more : (places : List (Option (K × V))) (i at : ℕ) (a b : Option (K × V)) → at ≡ suc i → at < length places → a ≡ get_or places i a → b ≡ get_or places at b → Precedes cmp a b → ((k : ℕ) → suc k < at → Precedes cmp (get_or places k None) (get_or places (suc k) None)) → (k : ℕ) → suc k < at + 1 → Precedes cmp (get_or places k None) (get_or places (suc k) None)
  steps_more places i at a b next lt read_a read_b here before k below =
      let first : get_or places i None ≡ a = sym (read_a ∙ get_or_default places i a None (omega arith)) in
      let second : get_or places (suc i) None ≡ b = sym (rw (sym next) (read_b ∙ get_or_default places at b None lt)) in
      ⊎_elim (λ less. before k less) (λ past.
      let same : k ≡ i = omega arith in
      rw same (rw (first, second) here)) (cases_lt (suc k) at)
