-- Where a search by halves among sorted places ends.
use Rattle.std.proofs.Common.{◌≡◌, ℕ, zero, suc, ◌<◌, ◌≤◌, List, [], ◌∷◌, length, get_or, Option, Some, None, Result, Ok, Err, IfOk, IfErr, sym, ap, ◌∙◌, arith}
use Rattle.std.specs.declared.cmp.Ordering.{Ordering}
use Rattle.std.specs.declared.cmp.Ordering.TheVariants.{Less, Equal, Greater}
use Rattle.std.specs.Ordering.{ordering_index}
use Rattle.std.specs.Cmp.{IsTotalOrder}
use Rattle.std.specs.List.{AllByRecursion}
use Rattle.std.specs.List.Sorted.{IsSearchInRange, IsBinarySearchResult, IsStrictlySortedBy}
use Rattle.std.specs.Map.{keys_of}
use Rattle.std.proofs.lemmas.Cmp.{tied_back, alike_right}
use Rattle.managed.specs.SortedMap.{filled, IsPacked, IsSortedPlaces}
use Rattle.managed.specs.Places.{AnswersAt, IsFoundAt, IsGapAt, place_order}
use Rattle.managed.proofs.OrderLemmas.{index_le, flip_less, flip_greater, index_rises}
use Rattle.managed.proofs.PackedLemmas.{vacant_at}

module _ {K V : Type 0} {cmp : K → K → Ordering} (total : IsTotalOrder cmp) (key : K) where
  abbrev rank : Option (K × V) → ℕ
  rank place = ordering_index (place_order cmp key place)

  rank_after : (x : K) (places : List (Option (K × V))) (j : ℕ) (d : Option (K × V)) → IsPacked places → AllByRecursion (λ y. cmp x y ≡ Less) (keys_of (filled places)) → j < length places → ordering_index (cmp x key) ≤ rank (get_or places j d)
  rank_after x [] j d packed below lt = absurd (omega arith)
  rank_after x (None ∷ places) zero d packed below lt = index_le (cmp x key)
  rank_after x (None ∷ places) (suc j) d packed below lt = rw (vacant_at places j d packed (omega arith)) (index_le (cmp x key))
  rank_after x (Some e ∷ places) zero d packed below lt = index_rises total key x e.0 below.0
  rank_after x (Some e ∷ places) (suc j) d packed below lt = rank_after x places j d packed below.1 (omega arith)

  ranks_rise : (places : List (Option (K × V))) → IsPacked places → IsStrictlySortedBy cmp (keys_of (filled places)) → (i j : ℕ) (d : Option (K × V)) → i ≤ j → j < length places → rank (get_or places i d) ≤ rank (get_or places j d)
  unfolding IsStrictlySortedBy
  ranks_rise [] packed sorted i j d le lt = absurd (omega arith)
  ranks_rise (place ∷ places) packed sorted zero zero d le lt = omega arith
  ranks_rise (place ∷ places) packed sorted (suc i) zero d le lt = absurd (omega arith)
  ranks_rise (None ∷ places) packed sorted zero (suc j) d le lt = rw (vacant_at places j d packed (omega arith)) (omega arith)
  ranks_rise (None ∷ places) packed sorted (suc i) (suc j) d le lt = rw (vacant_at places j d packed (omega arith)) (index_le (place_order cmp key (get_or places i d)))
  ranks_rise (Some e ∷ places) packed sorted zero (suc j) d le lt = rank_after e.0 places j d packed sorted.0 (omega arith)
  ranks_rise (Some e ∷ places) packed sorted (suc i) (suc j) d le lt = ranks_rise places packed sorted.1 i j d (omega arith) (omega arith)

  below_found : (x : K) (es : List (K × V)) (at : ℕ) → AllByRecursion (λ y. cmp x y ≡ Less) (keys_of es) → at < length es → AnswersAt (cmp key) es at Equal → cmp x key ≡ Less
  below_found x [] at below lt here = absurd (omega arith)
  below_found x (e ∷ es) zero below lt here = alike_right total key e.0 x here ∙ below.0
  below_found x (e ∷ es) (suc at) below lt here = below_found x es at below.1 (omega arith) here

  found_from : (places : List (Option (K × V))) (at : ℕ) → IsPacked places → IsStrictlySortedBy cmp (keys_of (filled places)) → at < length places → place_order cmp key (get_or places at None) ≡ Equal → IsFoundAt (cmp key) (filled places) at
  unfolding IsStrictlySortedBy
  found_from [] at packed sorted lt here = absurd (omega arith)
  found_from (None ∷ places) zero packed sorted lt here = absurd (cc)
  found_from (None ∷ places) (suc at) packed sorted lt here =
      let empty = vacant_at places at None packed (omega arith) in
      absurd (let clash : Greater ≡ Equal = sym (ap (place_order cmp key) empty) ∙ here in cc)
  found_from (Some e ∷ places) zero packed sorted lt here = record { in_range = omega arith; above = tt; here = tied_back total e.0 key here }
  found_from (Some e ∷ places) (suc at) packed sorted lt here =
      let rest = found_from places at packed sorted.1 (omega arith) here in
      record {
        in_range = omega (arith, rest.in_range);
        above = (flip_less total e.0 key (below_found e.0 (filled places) at sorted.0 rest.in_range rest.here), rest.above);
        here = rest.here;
      }

  gap_from : (places : List (Option (K × V))) (at : ℕ) → at ≤ length places → ((j : ℕ) → j < at → place_order cmp key (get_or places j None) ≡ Less) → ((j : ℕ) → at ≤ j → j < length places → place_order cmp key (get_or places j None) ≡ Greater) → IsGapAt (cmp key) (filled places) at
  gap_from [] zero le before after = record { in_range = omega arith; above = tt; here = tt }
  gap_from [] (suc at) le before after = absurd (omega arith)
  gap_from (None ∷ places) zero le before after = record { in_range = omega arith; above = tt; here = tt }
  gap_from (None ∷ places) (suc at) le before after = absurd (let clash : Greater ≡ Less = before 0 (omega arith) in cc)
  gap_from (Some e ∷ places) zero le before after = record { in_range = omega arith; above = tt; here = flip_greater total e.0 key (after 0 (omega arith) (omega arith)) }
  gap_from (Some e ∷ places) (suc at) le before after =
      let rest = gap_from places at (omega arith) (λ j lt. before (suc j) (omega arith)) (λ j le lt. after (suc j) (omega arith) (omega arith)) in
      record { in_range = omega (arith, rest.in_range); above = (flip_less total e.0 key (before 0 (omega arith)), rest.above); here = rest.here }

  -- a binary search by the places' order ends at the key, or at the gap for it
  pub searched : (places : List (Option (K × V))) → IsSortedPlaces cmp places → (r : Result ℕ ℕ) → IsSearchInRange r (length places) → IsBinarySearchResult (place_order cmp key) places r → record { found : IfOk r (IsFoundAt (cmp key) (filled places)); within : IsSearchInRange r (length places); empty : IfErr r (IsGapAt (cmp key) (filled places)) }
  searched places sorted (Ok at) in_range equal = record { found = found_from places at sorted.0 sorted.1 in_range (equal None); within = in_range; empty = tt }
  searched places sorted (Err at) in_range parted =
      let split = parted (ranks_rise places sorted.0 sorted.1) in
      record { found = tt; within = in_range; empty = gap_from places at in_range (λ j lt. split.0 j None (omega arith) lt) (λ j le lt. split.1 j None le lt) }
