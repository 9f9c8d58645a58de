-- What an insert does to a look-up, and why a key that was taken out finds nothing.
use Rattle.std.proofs.Common.{◌≡◌, ◌⊎◌, ℕ, zero, suc, ◌+◌, ◌<◌, ◌≤◌, Bool, true, false, cond, List, [], ◌∷◌, ◌++◌, get_or, set, Option, Some, None, refl, sym, ap, ◌∙◌, inl, inr, ⊎_elim, arith}
use Rattle.std.specs.declared.cmp.Ordering.{Ordering}
use Rattle.std.specs.declared.cmp.Ordering.TheVariants.{Less, Equal, Greater}
use Rattle.std.specs.Ordering.{is_eq, ordering_reverse}
use Rattle.std.specs.Cmp.{IsTotalOrder}
use Rattle.std.specs.BTreeMap.{insert_entry, is_at}
use Rattle.std.specs.Map.{set_value}
use Rattle.std.specs.Option.{IsSome}
use Rattle.std.proofs.lemmas.Cmp.{alike_right}
use Rattle.std.proofs.lemmas.Bool.Decides.{nat_tests}
use Rattle.managed.specs.SortedMap.{value_at, with_pair}
use Rattle.managed.specs.SlotTable.{SlotUse, generation_at, generation_after, generation_later, last_generation, taken_generations, handed_out, freed_at, after_steps, hand_outs}
use Rattle.managed.proofs.OrderLemmas.{by_ordering}

is_eq_back : (o : Ordering) → is_eq (ordering_reverse o) ≡ is_eq o
is_eq_back Less = refl
is_eq_back Equal = refl
is_eq_back Greater = refl

from_is_eq : (o : Ordering) → is_eq o ≡ true → o ≡ Equal
from_is_eq Less hit = absurd (cc)
from_is_eq Equal hit = refl
from_is_eq Greater hit = absurd (cc)

same_twice : {X : Type 0} (b : Bool) (x y z : X) → cond b x y ≡ cond b x (cond b z y)
same_twice true x y z = refl
same_twice false x y z = refl

either_first : {X : Type 0} (b c : Bool) (x y z : X) → (b ≡ true → c ≡ true → ⊥) → cond b x (cond c y z) ≡ cond c y (cond b x z)
either_first true true x y z apart = absurd (apart refl refl)
either_first true false x y z apart = refl
either_first false true x y z apart = refl
either_first false false x y z apart = refl

module _ {K V : Type 0} {cmp : K → K → Ordering} (total : IsTotalOrder cmp) (key : K) (value : V) (other : K) where
  back : is_eq (cmp other key) ≡ is_eq (cmp key other)
  back = ap is_eq (total.antisymm other key) ∙ is_eq_back (cmp key other)

  alike : (x : K) → cmp key x ≡ Equal → is_eq (cmp other x) ≡ is_eq (cmp key other)
  alike x same = ap is_eq (sym (alike_right total key x other same)) ∙ back

  apart_by : (x : K) (o : Ordering) → (o ≡ Equal → ⊥) → cmp key x ≡ o → is_eq (cmp other x) ≡ true → is_eq (cmp key other) ≡ true → ⊥
  apart_by x o differs is one two = differs (sym is ∙ total.congr key other x (from_is_eq _ two) ∙ from_is_eq _ one)

  apart : (x : K) → cmp key x ≡ Greater → is_eq (cmp other x) ≡ true → is_eq (cmp key other) ≡ true → ⊥
  apart x = apart_by x Greater (λ clash. cc)

  pub value-with_pair : (es : List (K × V)) → value_at cmp (with_pair cmp es key value) other ≡ cond (is_eq (cmp key other)) (Some value) (value_at cmp es other)
  value-with_pair [] = rw back refl
  value-with_pair (e ∷ es) = by_ordering (cmp key e.0)
      (λ less. rw (less, back) refl)
      (λ same. rw (same, back, alike e.0 same) (same_twice (is_eq (cmp key other)) (Some value) (value_at cmp es other) (Some e.1)))
      (λ greater. rw (greater, value-with_pair es) (either_first (is_eq (cmp other e.0)) (is_eq (cmp key other)) (Some e.1) (Some value) (value_at cmp es other) (apart e.0 greater)))

  pub value-insert_entry : (es : List (K × V)) → value_at cmp (insert_entry cmp es key value) other ≡ cond (is_eq (cmp key other)) (Some value) (value_at cmp es other)
  value-insert_entry [] = rw back refl
  value-insert_entry (e ∷ es) = by_ordering (cmp key e.0)
      (λ less. rw (less, back) refl)
      (λ same. rw (same, alike e.0 same) (same_twice (is_eq (cmp key other)) (Some value) (value_at cmp es other) (Some e.1)))
      (λ greater. rw (greater, value-insert_entry es) (either_first (is_eq (cmp other e.0)) (is_eq (cmp key other)) (Some e.1) (Some value) (value_at cmp es other) (apart e.0 greater)))

  -- a value that is written at a key that is there
  pub value-set : (es : List (K × V)) → IsSome (value_at cmp es key) → value_at cmp (set_value (is_at (cmp key)) es value) other ≡ cond (is_eq (cmp key other)) (Some value) (value_at cmp es other)
  value-set [] there = absurd (cc)
  value-set (e ∷ es) there = by_ordering (cmp key e.0)
      (λ less. rw (less, value-set es (rw less at there)) (either_first (is_eq (cmp other e.0)) (is_eq (cmp key other)) (Some e.1) (Some value) (value_at cmp es other) (apart_by e.0 Less (λ clash. cc) less)))
      (λ same. rw (same, alike e.0 same) (same_twice (is_eq (cmp key other)) (Some value) (value_at cmp es other) (Some e.1)))
      (λ greater. rw (greater, value-set es (rw greater at there)) (either_first (is_eq (cmp other e.0)) (is_eq (cmp key other)) (Some e.1) (Some value) (value_at cmp es other) (apart_by e.0 Greater (λ clash. cc) greater)))

-- ---- generations
later_differs : (g j : ℕ) → 0 < j → j < last_generation → generation_later g j ≡ g → ⊥
later_differs g j low high same = grind (arith, nat_tests)

later_next : (g j : ℕ) → 0 < g → g ≤ last_generation → j < last_generation → generation_after (generation_later g j) ≡ generation_later g (j + 1)
later_next g j low high lt = grind (arith, nat_tests)

at_push : (xs : List (Option ℕ)) (p n g : ℕ) → get_or (xs ++ Some n ∷ []) p None ≡ Some g → (n ≡ g) ⊎ (get_or xs p None ≡ Some g)
at_push [] zero n g is = inl (cc)
at_push [] (suc p) n g is = absurd (cc)
at_push (x ∷ xs) zero n g is = inr is
at_push (x ∷ xs) (suc p) n g is = at_push xs p n g is

at_set : (xs : List (Option ℕ)) (q p n g : ℕ) → get_or (set xs q (Some n)) p None ≡ Some g → (n ≡ g) ⊎ (get_or xs p None ≡ Some g)
at_set [] q p n g is = absurd (cc)
at_set (x ∷ xs) zero zero n g is = inl (cc)
at_set (x ∷ xs) zero (suc p) n g is = inr is
at_set (x ∷ xs) (suc q) zero n g is = inr is
at_set (x ∷ xs) (suc q) (suc p) n g is = at_set xs q p n g is

at_freed : (xs : List (Option ℕ)) (q p g : ℕ) → get_or (set xs q None) p None ≡ Some g → get_or xs p None ≡ Some g
at_freed [] q p g is = absurd (cc)
at_freed (x ∷ xs) zero zero g is = absurd (cc)
at_freed (x ∷ xs) zero (suc p) g is = is
at_freed (x ∷ xs) (suc q) zero g is = is
at_freed (x ∷ xs) (suc q) (suc p) g is = at_freed xs q p g is

at_taken : (freed : List ℕ) (xs : List (Option ℕ)) (p n g : ℕ) → get_or (taken_generations freed xs n) p None ≡ Some g → (n ≡ g) ⊎ (get_or xs p None ≡ Some g)
at_taken [] xs p n g is = at_push xs p n g is
at_taken (q ∷ freed) xs p n g is = at_set xs q p n g is

pub gone : (u : SlotUse) (place g j : ℕ) (steps : List (Option ℕ)) → 0 < g → g ≤ last_generation → 0 < j → u.next_generation ≡ generation_later g j → (generation_at u place ≡ Some g → ⊥) → j + hand_outs steps ≤ last_generation → generation_at (after_steps u steps) place ≡ Some g → ⊥
gone u place g j [] low high some next absent within = absent
gone u place g j (None ∷ steps) low high some next absent within =
    gone (handed_out u) place g (j + 1) steps low high (omega arith) (ap generation_after next ∙ later_next g j low high (omega arith))
    (λ is. ⊎_elim (λ same. later_differs g j some (omega arith) (sym next ∙ same)) absent (at_taken u.freed u.generations place u.next_generation g is))
    (omega arith)
gone u place g j (Some q ∷ steps) low high some next absent within =
    gone (freed_at u q) place g j steps low high some next (λ is. absent (at_freed u.generations q place g is)) within
