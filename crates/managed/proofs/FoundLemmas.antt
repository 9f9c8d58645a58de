-- What is at a place that a search found, and what an edit of the pairs keeps.
use Rattle.std.proofs.Common.{◌≡◌, ℕ, zero, suc, List, [], ◌∷◌, Bool, get_or, Option, Some, None, refl, sym, ap, ◌∙◌, arith}
use Rattle.std.specs.declared.cmp.Ordering.{Ordering}
use Rattle.std.specs.declared.cmp.Ordering.TheVariants.{Less}
use Rattle.std.specs.Cmp.{IsTotalOrder}
use Rattle.std.specs.List.{AllByRecursion}
use Rattle.std.specs.List.Sorted.{IsStrictlySortedBy}
use Rattle.std.specs.Map.{keys_of, lookup, remove_entry}
use Rattle.std.specs.Option.{option_map}
use Rattle.std.specs.BTreeMap.{is_at}
use Rattle.managed.specs.SortedMap.{filled, value_at, with_pair}
use Rattle.managed.specs.Places.{IsFoundAt, IsGapAt}
use Rattle.managed.proofs.OrderLemmas.{by_ordering, by_test, all_map, flip_greater}

module _ {K V : Type 0} (compare : K → Ordering) where
  -- the value at the place that was found
  pub found_value : (places : List (Option (K × V))) (at : ℕ) → IsFoundAt compare (filled places) at → lookup (is_at compare) (filled places) ≡ option_map (λ e. e.1) (get_or places at None)
  found_value [] at found = absurd (omega (arith, found.in_range))
  found_value (None ∷ places) at found = absurd (omega (arith, found.in_range))
  found_value (Some e ∷ places) zero found = rw found.here refl
  found_value (Some e ∷ places) (suc at) found = rw found.above.0 (found_value places at (record { in_range = omega (arith, found.in_range); above = found.above.1; here = found.here }))

  -- the place that was found has a pair
  pub found_place : (places : List (Option (K × V))) (at : ℕ) → IsFoundAt compare (filled places) at → (e : K × V) × (get_or places at None ≡ Some e)
  found_place [] at found = absurd (omega (arith, found.in_range))
  found_place (None ∷ places) at found = absurd (omega (arith, found.in_range))
  found_place (Some e ∷ places) zero found = (e, refl)
  found_place (Some e ∷ places) (suc at) found = found_place places at (record { in_range = omega (arith, found.in_range); above = found.above.1; here = found.here })

  -- whatever is read where there is no place
  pub found_default : (places : List (Option (K × V))) (at : ℕ) (other : Option (K × V)) → IsFoundAt compare (filled places) at → get_or places at other ≡ get_or places at None
  found_default [] at other found = absurd (omega (arith, found.in_range))
  found_default (None ∷ places) at other found = absurd (omega (arith, found.in_range))
  found_default (Some e ∷ places) zero other found = refl
  found_default (Some e ∷ places) (suc at) other found = found_default places at other (record { in_range = omega (arith, found.in_range); above = found.above.1; here = found.here })

module _ {K V : Type 0} {cmp : K → K → Ordering} (total : IsTotalOrder cmp) (key : K) where
  value_past : (es : List (K × V)) (x : K) → cmp key x ≡ Less → AllByRecursion (λ y. cmp x y ≡ Less) (keys_of es) → value_at cmp es key ≡ None
  value_past [] x less below = refl
  value_past (e ∷ es) x less below = rw (total.trans key x e.0 less below.0) (value_past es x less below.1)

  -- a key that has a gap is not there
  pub gap_value : (es : List (K × V)) (at : ℕ) → IsStrictlySortedBy cmp (keys_of es) → IsGapAt (cmp key) es at → value_at cmp es key ≡ None
  unfolding IsStrictlySortedBy
  gap_value [] at sorted gap = refl
  gap_value (e ∷ es) zero sorted gap = rw gap.here (value_past es e.0 gap.here sorted.0)
  gap_value (e ∷ es) (suc at) sorted gap = rw gap.above.0 (gap_value es at sorted.1 (record { in_range = omega (arith, gap.in_range); above = gap.above.1; here = gap.here }))

module _ {K V : Type 0} {cmp : K → K → Ordering} (total : IsTotalOrder cmp) where
  all_with_pair : (P : K → Type 0) (es : List (K × V)) (key : K) (value : V) → P key → AllByRecursion P (keys_of es) → AllByRecursion P (keys_of (with_pair cmp es key value))
  all_with_pair P [] key value here all = (here, tt)
  all_with_pair P (e ∷ es) key value here all = by_ordering (cmp key e.0)
      (λ less. rw less (here, all))
      (λ same. rw same (here, all.1))
      (λ greater. rw greater (all.0, all_with_pair P es key value here all.1))

  -- a new pair keeps the order
  pub sorted_with_pair : (es : List (K × V)) (key : K) (value : V) → IsStrictlySortedBy cmp (keys_of es) → IsStrictlySortedBy cmp (keys_of (with_pair cmp es key value))
  unfolding IsStrictlySortedBy
  sorted_with_pair [] key value sorted = (tt, tt)
  sorted_with_pair (e ∷ es) key value sorted = by_ordering (cmp key e.0)
      (λ less. rw less ((less, all_map (λ y h. total.trans key e.0 y less h) (keys_of es) sorted.0), sorted))
      (λ same. rw same (all_map (λ y h. total.congr key e.0 y same ∙ h) (keys_of es) sorted.0, sorted.1))
      (λ greater. rw greater (all_with_pair (λ y. cmp e.0 y ≡ Less) es key value (flip_greater total key e.0 greater) sorted.0, sorted_with_pair es key value sorted.1))

module _ {K V : Type 0} (cmp : K → K → Ordering) (test : K → Bool) where
  all_removed : (P : K → Type 0) (es : List (K × V)) → AllByRecursion P (keys_of es) → AllByRecursion P (keys_of (remove_entry test es))
  all_removed P [] all = tt
  all_removed P (e ∷ es) all = by_test (test e.0) (λ hit. rw hit all.1) (λ miss. rw miss (all.0, all_removed P es all.1))

  -- a pair less keeps the order
  pub sorted_removed : (es : List (K × V)) → IsStrictlySortedBy cmp (keys_of es) → IsStrictlySortedBy cmp (keys_of (remove_entry test es))
  unfolding IsStrictlySortedBy
  sorted_removed [] sorted = tt
  sorted_removed (e ∷ es) sorted = by_test (test e.0) (λ hit. rw hit sorted.1) (λ miss. rw miss (all_removed (λ y. cmp e.0 y ≡ Less) es sorted.0, sorted_removed es sorted.1))

module _ {K V : Type 0} (compare : K → Ordering) where
  -- what is read at the place that was found
  pub found_read : (places : List (Option (K × V))) (at : ℕ) (e : K × V) → IsFoundAt compare (filled places) at → get_or places at (Some e) ≡ Some e → Some e.1 ≡ lookup (is_at compare) (filled places)
  found_read [] at e found read = absurd (omega (arith, found.in_range))
  found_read (None ∷ places) at e found read = absurd (omega (arith, found.in_range))
  found_read (Some f ∷ places) zero e found read = rw found.here (ap (option_map (λ x. x.1)) (sym read))
  found_read (Some f ∷ places) (suc at) e found read = rw found.above.0 (found_read places at e (record { in_range = omega (arith, found.in_range); above = found.above.1; here = found.here }) read)

  -- which is not empty
  pub found_no_gap : (places : List (Option (K × V))) (at : ℕ) → IsFoundAt compare (filled places) at → get_or places at None ≡ None → ⊥
  found_no_gap [] at found read = omega (arith, found.in_range)
  found_no_gap (None ∷ places) at found read = omega (arith, found.in_range)
  found_no_gap (Some f ∷ places) zero found read = cc
  found_no_gap (Some f ∷ places) (suc at) found read = found_no_gap places at (record { in_range = omega (arith, found.in_range); above = found.above.1; here = found.here }) read

  -- the same, of a value r that was read there
  pub found_some : (places : List (Option (K × V))) (at : ℕ) (r : Option (K × V)) (k : K) (v : V) → IsFoundAt compare (filled places) at → r ≡ get_or places at r → r ≡ Some (k, v) → Some v ≡ lookup (is_at compare) (filled places)
  found_some places at r k v found is eq = found_read places at (k, v) found (sym (rw eq at is))

  pub found_none : (places : List (Option (K × V))) (at : ℕ) (r : Option (K × V)) → IsFoundAt compare (filled places) at → r ≡ get_or places at r → r ≡ None → ⊥
  found_none places at r found is eq = found_no_gap places at found (sym (rw eq at is))

  -- a key that was found is there
  pub found_there : (places : List (Option (K × V))) (at : ℕ) → IsFoundAt compare (filled places) at → lookup (is_at compare) (filled places) ≡ None → ⊥
  found_there places at found absent =
      let place = found_place compare places at found in
      let clash : Some place.0.1 ≡ None = sym (found_value compare places at found ∙ ap (option_map (λ e. e.1)) place.1) ∙ absent in
      cc

module _ {K V : Type 0} (test : K → Bool) where
  -- nothing goes where no key passes
  pub removed_none : (es : List (K × V)) → lookup test es ≡ None → remove_entry test es ≡ es
  removed_none [] absent = refl
  removed_none (e ∷ es) absent = by_test (test e.0)
      (λ hit. absurd (let clash : Some e.1 ≡ None = sym (rw hit refl) ∙ absent in cc))
      (λ miss. rw miss (ap (λ l. e ∷ l) (removed_none es (sym (rw miss refl) ∙ absent))))
