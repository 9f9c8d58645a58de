-- What the iterators of a map have left.
use Rattle.std.specs.Prelude.{◌≡◌, ℕ, List, [], ◌∷◌, length, MatchOption, Option, Some, None}
use Rattle.std.specs.Borrow.{Bor, MutBor}
use Rattle.std.specs.Map.Iter.{deref_pair_mut}
use Rattle.std.specs.Slice.Iter.{iter_mut_rest as places_rest}
use Rattle.std.specs.BTreeMap.IterMut.{iter_mut_rest as tree_rest}
use Rattle.managed.specs.SortedMap.{filled, IsPacked}
use Rattle.managed.specs.declared.map.iter.Pairs as read
use Rattle.managed.specs.declared.map.iter_mut.IterMut.{IterMut}
use Rattle.managed.specs.declared.map.iter_mut.Left as lent
use Rattle.managed.specs.declared.map.range.Span as span

-- each place has an item
abbrev pub AllFilled : {X : Type 0} → List (Option X) → Type 0
AllFilled [] = Unit {0}
AllFilled (None ∷ places) = ⊥
AllFilled (Some x ∷ places) = AllFilled places

module _ {K V : Type 0} where
  -- the pairs that are left to read
  abbrev pub pairs_left : read.Pairs K V → List (K × V)
  pairs_left (read.TheVariants.Borrowed places) = filled places.now
  pairs_left (read.TheVariants.Owned pairs) = pairs

  -- the empty places that are left come last
  abbrev pub IsPackedWalk : read.Pairs K V → Type 0
  IsPackedWalk (read.TheVariants.Borrowed places) = IsPacked places.now
  IsPackedWalk (read.TheVariants.Owned pairs) = Unit {0}

  -- the pairs that storage has left to write
  abbrev pub pairs_lent : lent.Left K V → List (K × V)
  pairs_lent (lent.TheVariants.Borrowed places) = filled (places_rest places)
  pairs_lent (lent.TheVariants.Owned pairs) = tree_rest pairs

  -- how many places it has not yet passed, or pairs of a tree
  abbrev pub places_lent : lent.Left K V → ℕ
  places_lent (lent.TheVariants.Borrowed places) = length (places_rest places)
  places_lent (lent.TheVariants.Owned pairs) = length (tree_rest pairs)

  -- how many pairs it has for sure: those of a tree
  abbrev pub pairs_counted : lent.Left K V → ℕ
  pairs_counted (lent.TheVariants.Borrowed places) = 0
  pairs_counted (lent.TheVariants.Owned pairs) = length (tree_rest pairs)

  -- the same of a walk
  abbrev pub pairs_to_write : IterMut K V → List (K × V)
  pairs_to_write s = pairs_lent s.left

  abbrev pub places_to_pass : IterMut K V → ℕ
  places_to_pass s = places_lent s.left

  abbrev pub pairs_to_pass : IterMut K V → ℕ
  pairs_to_pass s = pairs_counted s.left

  -- a walk at s lent the first pair that was left, and has the others left at t
  abbrev pub LendsNext : IterMut K V → Option (Bor K × MutBor V) → IterMut K V → Type 0
  LendsNext s r t = MatchOption r (pairs_to_write s ≡ []) (λ pair. pairs_to_write s ≡ deref_pair_mut pair ∷ pairs_to_write t)

  -- the pairs of a range that are left
  abbrev pub span_left : span.Span K V → List (K × V)
  span_left (span.TheVariants.Borrowed places) = filled places.now
  span_left (span.TheVariants.Owned pairs) = pairs

  abbrev pub IsFilledSpan : span.Span K V → Type 0
  IsFilledSpan (span.TheVariants.Borrowed places) = AllFilled places.now
  IsFilledSpan (span.TheVariants.Owned pairs) = Unit {0}
