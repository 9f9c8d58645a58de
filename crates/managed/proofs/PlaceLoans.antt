-- What places hold once a value was written at the place that was found.
use Rattle.std.proofs.Common.{◌≡◌, ℕ, zero, suc, List, [], ◌∷◌, length, get_or, set, Option, Some, None, refl, sym, subst, ap, arith}
use Rattle.std.specs.declared.cmp.Ordering.{Ordering}
use Rattle.std.specs.List.Sorted.{IsStrictlySortedBy}
use Rattle.std.specs.Map.{set_value}
use Rattle.std.specs.BTreeMap.{is_at}
use Rattle.std.proofs.lemmas.Map.{keys-set_value}
use Rattle.managed.specs.SortedMap.{filled, IsPacked, IsSortedPlaces}
use Rattle.managed.specs.MapLoans.{with_value_at, IsWrittenPlaces}
use Rattle.managed.specs.Places.{IsFoundAt}

module _ {K V : Type 0} (compare : K → Ordering) where
  filled-written : (places : List (Option (K × V))) (at : ℕ) (w : V) → IsFoundAt compare (filled places) at
      → filled (with_value_at places at w) ≡ set_value (is_at compare) (filled places) w
  filled-written [] at w found = absurd (omega (arith, found.in_range))
  filled-written (None ∷ places) at w found = absurd (omega (arith, found.in_range))
  filled-written (Some e ∷ places) zero w found = rw found.here refl
  filled-written (Some e ∷ places) (suc at) w found =
      rw found.above.0 (ap (λ es. e ∷ es) (filled-written places at w
      (record { in_range = omega (arith, found.in_range); above = found.above.1; here = found.here })))

  packed-written : (places : List (Option (K × V))) (at : ℕ) (w : V) → IsFoundAt compare (filled places) at
      → IsPacked places → IsPacked (with_value_at places at w)
  packed-written [] at w found packed = absurd (omega (arith, found.in_range))
  packed-written (None ∷ places) at w found packed = absurd (omega (arith, found.in_range))
  packed-written (Some e ∷ places) zero w found packed = packed
  packed-written (Some e ∷ places) (suc at) w found packed =
      packed-written places at w
      (record { in_range = omega (arith, found.in_range); above = found.above.1; here = found.here }) packed

length-written : {K V : Type 0} (places : List (Option (K × V))) (at : ℕ) (w : V)
    → length (with_value_at places at w) ≡ length places
length-written [] at w = refl
length-written (place ∷ places) zero w = refl
length-written (place ∷ places) (suc at) w = ap suc (length-written places at w)

-- a place without a write
pub same_place : {X : Type 0} (places : List (Option X)) (at : ℕ) → set places at (get_or places at None)
    ≡ places
same_place [] at = refl
same_place (place ∷ places) zero = refl
same_place (place ∷ places) (suc at) = ap (λ l. place ∷ l) (same_place places at)

pub written_at : {K V : Type 0} {cmp : K → K → Ordering} (key : K) (places : List (Option (K × V))) (at : ℕ)
    (w : V) → IsFoundAt (cmp key) (filled places) at → IsSortedPlaces cmp places → IsWrittenPlaces cmp key
    places w (with_value_at places at w)
written_at {cmp = cmp} key places at w found sorted =
    let pairs = filled-written (cmp key) places at w found in
    let keys = keys-set_value (is_at (cmp key)) (filled places) w in record {
      pairs = record { written = pairs; keys = rw pairs keys };
      capacity = length-written places at w;
      sorted = (
        packed-written (cmp key) places at w found sorted.0,
        rw pairs (subst (IsStrictlySortedBy cmp)
            (sym keys) sorted.1),
      );
    }
