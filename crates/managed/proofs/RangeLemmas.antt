-- The pairs between two bounds.
use Rattle.std.proofs.Common.{◌≡◌, ℕ, zero, suc, ◌+◌, ◌<◌, ◌≤◌, Bool, true, false, not, ◌&&◌, List, [], ◌∷◌, ◌++◌, length, get_or, take, drop, Option, Some, None, refl, sym, ap, ◌∙◌, arith}
use Rattle.std.specs.declared.cmp.Ordering.{Ordering}
use Rattle.std.specs.declared.cmp.Ordering.TheVariants.{Less, Equal, Greater}
use Rattle.std.specs.Ordering.{is_lt, is_le, is_gt}
use Rattle.std.specs.declared.ops.Bound.{Bound}
use Rattle.std.specs.declared.ops.Bound.TheVariants.{Included, Excluded, Unbounded}
use Rattle.std.specs.Range.Bound.{IsForward}
use Rattle.std.specs.BTreeMap.Range.{range_contains, IsLeBy, IsLtBy}
use Rattle.std.proofs.lemmas.Cmp.{alike_right}
use Rattle.managed.proofs.OrderLemmas.{by_ordering, flip_greater}
use Rattle.std.specs.Cmp.{IsTotalOrder}
use Rattle.std.specs.List.{filter}
use Rattle.std.specs.Option.{option_map, MatchOption}
use Rattle.managed.specs.SortedMap.{filled}
use Rattle.managed.specs.Walk.{AllFilled}
use Rattle.managed.specs.Places.{IsCut}

module _ {K V : Type 0} where
  module _ (from past : K → Bool) where
    abbrev inside : K × V → Bool
    inside e = from e.0 && not (past e.0)

    outside_drops : (e : K × V) (es : List (K × V)) → inside e ≡ false → filter inside es ≡ [] → filter inside (e ∷ es) ≡ []
    outside_drops e es out rest = rw out rest

    past_outside : (e : K × V) → past e.0 ≡ true → inside e ≡ false
    past_outside e hit = no (from e.0) (past e.0) hit
      where
        no : (b c : Bool) → c ≡ true → (b && not c) ≡ false
        no true c hit = rw hit refl
        no false c hit = refl

    none_inside : (es : List (K × V)) → IsCut past es 0 → filter inside es ≡ []
    none_inside [] cut = refl
    none_inside (e ∷ es) cut = outside_drops e es (past_outside e cut.0) (none_inside es cut.1)

    up_to : (es : List (K × V)) (hi : ℕ) → IsCut from es 0 → IsCut past es hi → filter inside es ≡ take hi es
    up_to [] zero starts ends = refl
    up_to [] (suc hi) starts ends = refl
    up_to (e ∷ es) zero starts ends = none_inside (e ∷ es) ends
    up_to (e ∷ es) (suc hi) starts ends = rw (starts.0, ends.0) (ap (λ l. e ∷ l) (up_to es hi starts.1 ends.1))

    -- the pairs inside are those between the two cuts
    pub between_cuts : (es : List (K × V)) (lo hi n : ℕ) → n + lo ≡ hi → IsCut from es lo → IsCut past es hi → filter inside es ≡ take n (drop lo es)
    between_cuts es zero hi n same starts ends = let e : n ≡ hi = omega arith in rw e (up_to es hi starts ends)
    between_cuts [] (suc lo) hi zero same starts ends = refl
    between_cuts [] (suc lo) hi (suc n) same starts ends = refl
    between_cuts (e ∷ es) (suc lo) zero n same starts ends = absurd (omega arith)
    between_cuts (e ∷ es) (suc lo) (suc hi) n same starts ends = rw starts.0 (between_cuts es lo hi n (omega arith) starts.1 ends.1)

    -- and none where the second cut is not past the first
    pub none_between : (es : List (K × V)) (lo hi : ℕ) → hi ≤ lo → IsCut from es lo → IsCut past es hi → filter inside es ≡ []
    none_between [] lo hi le starts ends = refl
    none_between (e ∷ es) lo zero le starts ends = none_inside (e ∷ es) ends
    none_between (e ∷ es) zero (suc hi) le starts ends = absurd (omega arith)
    none_between (e ∷ es) (suc lo) (suc hi) le starts ends = rw starts.0 (none_between es lo hi (omega arith) starts.1 ends.1)

-- a part of the places that have items
pub filled-part : {X : Type 0} (places : List (Option X)) (lo n : ℕ) → n + lo ≤ length (filled places) → (filled (take n (drop lo places)) ≡ take n (drop lo (filled places))) × AllFilled (take n (drop lo places))
filled-part [] zero zero le = (refl, tt)
filled-part [] zero (suc n) le = absurd (omega arith)
filled-part [] (suc lo) n le = absurd (omega arith)
filled-part (None ∷ places) zero zero le = (refl, tt)
filled-part (None ∷ places) zero (suc n) le = absurd (omega arith)
filled-part (None ∷ places) (suc lo) n le = absurd (omega arith)
filled-part (Some x ∷ places) zero zero le = (refl, tt)
filled-part (Some x ∷ places) zero (suc n) le =
    let rest = filled-part places zero n (omega arith) in
    (ap (λ l. x ∷ l) (rest.0), rest.1)
filled-part (Some x ∷ places) (suc lo) n le = filled-part places lo n (omega arith)

-- the last of the places that all have an item
pub filled_last : {X : Type 0} (places : List (Option X)) (n : ℕ) (r : Option X) (x : X) → AllFilled places → suc n ≡ length places → r ≡ get_or places n r → r ≡ Some x → (filled places ≡ filled (take n places) ++ x ∷ []) × AllFilled (take n places)
filled_last [] n r x all last is some = absurd (omega arith)
filled_last (None ∷ places) n r x all last is some = absurd all
filled_last (Some y ∷ []) zero r x all last is some =
    let same : Some y ≡ Some x = sym is ∙ some in
    (cc, tt)
filled_last (Some y ∷ z ∷ places) zero r x all last is some = absurd (omega arith)
filled_last (Some y ∷ places) (suc n) r x all last is some =
    let rest = filled_last places n r x all (omega arith) is some in
    (ap (λ l. y ∷ l) rest.0, rest.1)

pub last_filled : {X : Type 0} (places : List (Option X)) (n : ℕ) (r : Option X) → AllFilled places → n < length places → r ≡ get_or places n r → r ≡ None → ⊥
last_filled [] n r all lt is none = omega arith
last_filled (None ∷ places) n r all lt is none = all
last_filled (Some y ∷ places) zero r all lt is none = let clash : Some y ≡ None = sym is ∙ none in cc
last_filled (Some y ∷ places) (suc n) r all lt is none = last_filled places n r all (omega arith) is none

le_from_lt : (o : Ordering) → is_lt o ≡ true → is_le o ≡ true
le_from_lt Less lt = refl
le_from_lt Equal lt = absurd (cc)
le_from_lt Greater lt = absurd (cc)

either : (b c : Bool) → (b ≡ true → c ≡ true) → (b && not c) ≡ false
either true c f = rw (f refl) refl
either false c f = refl

module _ {K : Type 0} {cmp : K → K → Ordering} (total : IsTotalOrder cmp) where
  -- past the end, where the end is before the start
  below_all : (a b q : K) → cmp a b ≡ Greater → is_le (cmp a q) ≡ true → cmp b q ≡ Less
  below_all a b q greater from =
      let lower = flip_greater total a b greater in
      by_ordering (cmp a q) (λ less. total.trans b a q lower less) (λ same. sym (alike_right total a q b same) ∙ lower)
      (λ more. absurd (let clash : false ≡ true = sym (ap is_le more) ∙ from in cc))

  greater_from : (a b : K) → (is_gt (cmp a b) ≡ false → ⊥) → cmp a b ≡ Greater
  greater_from a b back = by_ordering (cmp a b) (λ less. absurd (back (ap is_gt less))) (λ same. absurd (back (ap is_gt same))) (λ more. more)

  outside : (lo hi : Bound K) (q : K) → (IsForward (IsLeBy cmp) (IsLtBy cmp) lo hi → ⊥) → range_contains cmp lo hi q ≡ false
  outside Unbounded hi q back = absurd (back tt)
  outside (Included a) Unbounded q back = absurd (back tt)
  outside (Excluded a) Unbounded q back = absurd (back tt)
  outside (Included a) (Included b) q back = either (is_le (cmp a q)) (is_lt (cmp b q)) (λ from. ap is_lt (below_all a b q (greater_from a b back) from))
  outside (Included a) (Excluded b) q back = either (is_le (cmp a q)) (is_le (cmp b q)) (λ from. ap is_le (below_all a b q (greater_from a b back) from))
  outside (Excluded a) (Included b) q back = either (is_lt (cmp a q)) (is_lt (cmp b q)) (λ from. ap is_lt (below_all a b q (greater_from a b back) (le_from_lt _ from)))
  outside (Excluded a) (Excluded b) q back = either (is_lt (cmp a q)) (is_le (cmp b q)) (λ from. by_ordering (cmp a b) (λ less. absurd (back less))
      (λ same. ap is_le (sym (total.congr a b q same)) ∙ le_from_lt _ from)
      (λ more. ap is_le (below_all a b q more (le_from_lt _ from))))

  -- bounds that run backwards have no pair between them
  pub none_backwards : {V : Type 0} (lo hi : Bound K) (es : List (K × V)) → (IsForward (IsLeBy cmp) (IsLtBy cmp) lo hi → ⊥) → filter (λ e. range_contains cmp lo hi e.0) es ≡ []
  none_backwards lo hi [] back = refl
  none_backwards lo hi (e ∷ es) back = rw (outside lo hi e.0 back) (none_backwards lo hi es back)

-- the next place, if it has an item
pub walked : {A X : Type 0} (shows : A → X) (r : Option A) (place : Option X) (s t : List (Option X)) → option_map shows r ≡ place → s ≡ place ∷ t → MatchOption r (filled s ≡ []) (λ x. filled s ≡ shows x ∷ filled t)
walked shows None place s t shown is = rw (is, sym shown) refl
walked shows (Some x) place s t shown is = rw (is, sym shown) refl
