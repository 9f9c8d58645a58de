-- Where a bound cuts the pairs.
use Rattle.std.proofs.Common.{◌≡◌, ℕ, zero, suc, true, false, List, [], ◌∷◌, length, refl, ap, ◌∙◌, arith}
use Rattle.std.specs.declared.cmp.Ordering.{Ordering}
use Rattle.std.specs.declared.cmp.Ordering.TheVariants.{Less, Equal}
use Rattle.std.specs.Ordering.{is_lt, is_le}
use Rattle.std.specs.Cmp.{IsTotalOrder}
use Rattle.std.specs.List.{AllByRecursion}
use Rattle.std.specs.List.Sorted.{IsStrictlySortedBy}
use Rattle.std.specs.Map.{keys_of}
use Rattle.managed.specs.Places.{IsFoundAt, IsGapAt, IsCut}

module _ {K V : Type 0} {cmp : K → K → Ordering} (total : IsTotalOrder cmp) (key : K) where
  le_after : (x : K) (es : List (K × V)) → cmp key x ≡ Less → AllByRecursion (λ y. cmp x y ≡ Less) (keys_of es) → IsCut (λ q. is_le (cmp key q)) es 0
  le_after x [] less below = tt
  le_after x (e ∷ es) less below = (ap is_le (total.trans key x e.0 less below.0), le_after x es less below.1)

  lt_after : (x : K) (es : List (K × V)) → cmp key x ≡ Less → AllByRecursion (λ y. cmp x y ≡ Less) (keys_of es) → IsCut (λ q. is_lt (cmp key q)) es 0
  lt_after x [] less below = tt
  lt_after x (e ∷ es) less below = (ap is_lt (total.trans key x e.0 less below.0), lt_after x es less below.1)

  le_equal : (x : K) (es : List (K × V)) → cmp key x ≡ Equal → AllByRecursion (λ y. cmp x y ≡ Less) (keys_of es) → IsCut (λ q. is_le (cmp key q)) es 0
  le_equal x [] same below = tt
  le_equal x (e ∷ es) same below = (ap is_le (total.congr key x e.0 same ∙ below.0), le_equal x es same below.1)

  lt_equal : (x : K) (es : List (K × V)) → cmp key x ≡ Equal → AllByRecursion (λ y. cmp x y ≡ Less) (keys_of es) → IsCut (λ q. is_lt (cmp key q)) es 0
  lt_equal x [] same below = tt
  lt_equal x (e ∷ es) same below = (ap is_lt (total.congr key x e.0 same ∙ below.0), lt_equal x es same below.1)

  -- where the key is: the keys at it or after it, and those after it
  pub le_found : (es : List (K × V)) (at : ℕ) → IsStrictlySortedBy cmp (keys_of es) → IsFoundAt (cmp key) es at → IsCut (λ q. is_le (cmp key q)) es at
  unfolding IsStrictlySortedBy
  le_found [] at sorted found = tt
  le_found (e ∷ es) zero sorted found = (ap is_le found.here, le_equal e.0 es found.here sorted.0)
  le_found (e ∷ es) (suc at) sorted found = (ap is_le found.above.0, le_found es at sorted.1 (record { in_range = omega (arith, found.in_range); above = found.above.1; here = found.here }))

  pub lt_found : (es : List (K × V)) (at : ℕ) → IsStrictlySortedBy cmp (keys_of es) → IsFoundAt (cmp key) es at → IsCut (λ q. is_lt (cmp key q)) es (suc at)
  unfolding IsStrictlySortedBy
  lt_found [] at sorted found = tt
  lt_found (e ∷ es) zero sorted found = (ap is_lt found.here, lt_equal e.0 es found.here sorted.0)
  lt_found (e ∷ es) (suc at) sorted found = (ap is_lt found.above.0, lt_found es at sorted.1 (record { in_range = omega (arith, found.in_range); above = found.above.1; here = found.here }))

  -- where it is not
  pub le_gap : (es : List (K × V)) (at : ℕ) → IsStrictlySortedBy cmp (keys_of es) → IsGapAt (cmp key) es at → IsCut (λ q. is_le (cmp key q)) es at
  unfolding IsStrictlySortedBy
  le_gap [] at sorted gap = tt
  le_gap (e ∷ es) zero sorted gap = (ap is_le gap.here, le_after e.0 es gap.here sorted.0)
  le_gap (e ∷ es) (suc at) sorted gap = (ap is_le gap.above.0, le_gap es at sorted.1 (record { in_range = omega (arith, gap.in_range); above = gap.above.1; here = gap.here }))

  pub lt_gap : (es : List (K × V)) (at : ℕ) → IsStrictlySortedBy cmp (keys_of es) → IsGapAt (cmp key) es at → IsCut (λ q. is_lt (cmp key q)) es at
  unfolding IsStrictlySortedBy
  lt_gap [] at sorted gap = tt
  lt_gap (e ∷ es) zero sorted gap = (ap is_lt gap.here, lt_after e.0 es gap.here sorted.0)
  lt_gap (e ∷ es) (suc at) sorted gap = (ap is_lt gap.above.0, lt_gap es at sorted.1 (record { in_range = omega (arith, gap.in_range); above = gap.above.1; here = gap.here }))

module _ {K V : Type 0} where
  -- every key passes, or none
  pub cut_start : (es : List (K × V)) → IsCut (λ q. true) es 0
  cut_start [] = tt
  cut_start (e ∷ es) = (refl, cut_start es)

  pub cut_end : (es : List (K × V)) → IsCut (λ q. false) es (length es)
  cut_end [] = tt
  cut_end (e ∷ es) = (refl, cut_end es)
