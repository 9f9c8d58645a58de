-- How a borrowed map searches and moves its places. No public clause cites this module.
use Rattle.std.specs.Prelude.{◌≡◌, ℕ, zero, suc, ◌<◌, ◌≤◌, List, [], ◌∷◌, length, Bool, true, false, Option, Some, None}
use Rattle.std.specs.declared.cmp.Ordering.{Ordering}
use Rattle.std.specs.declared.cmp.Ordering.TheVariants.{Less, Equal, Greater}

module _ {K V : Type 0} (compare : K → Ordering) where
  -- a query is above the first i keys
  abbrev pub IsAboveFirst : List (K × V) → ℕ → Type 0
  IsAboveFirst es zero = Unit {0}
  IsAboveFirst [] (suc i) = ⊥
  IsAboveFirst (e ∷ es) (suc i) = (compare e.0 ≡ Greater) × IsAboveFirst es i

  -- what it answers at the i-th key, if there is one
  abbrev pub AnswersAt : List (K × V) → ℕ → Ordering → Type 0
  AnswersAt [] i answer = Unit {0}
  AnswersAt (e ∷ es) zero answer = compare e.0 ≡ answer
  AnswersAt (e ∷ es) (suc i) answer = AnswersAt es i answer

  -- it is equal to the i-th key
  pub record IsFoundAt (es : List (K × V)) (i : ℕ) : Type 0 where
    pub in_range : i < length es
    pub above : IsAboveFirst es i
    pub here : AnswersAt es i Equal

  -- it belongs before the i-th pair
  pub record IsGapAt (es : List (K × V)) (i : ℕ) : Type 0 where
    pub in_range : i ≤ length es
    pub above : IsAboveFirst es i
    pub here : AnswersAt es i Less

-- how the pair of a place compares with a key, where an empty place is above each key
abbrev pub place_order : {K V : Type 0} → (K → K → Ordering) → K → Option (K × V) → Ordering
place_order cmp key None = Greater
place_order cmp key (Some e) = cmp e.0 key

module _ {X : Type 0} where
  -- the places once an item stands before them, up to the first empty place
  abbrev pub pushed : Option X → List (Option X) → List (Option X)
  pushed None places = places
  pushed (Some x) [] = []
  pushed (Some x) (place ∷ places) = Some x ∷ pushed place places

  -- an empty place and these places, once the place has gone behind their items
  abbrev pub pulled : List (Option X) → List (Option X)
  pulled [] = None ∷ []
  pulled (None ∷ places) = None ∷ None ∷ places
  pulled (Some x ∷ places) = Some x ∷ pulled places

  -- the places without the first one's item
  abbrev pub closed_up : List (Option X) → List (Option X)
  closed_up [] = []
  closed_up (place ∷ places) = pulled places

-- a test of the keys fails at the first n pairs and passes at the others
abbrev pub IsCut : {K V : Type 0} → (K → Bool) → List (K × V) → ℕ → Type 0
IsCut test [] n = Unit {0}
IsCut test (e ∷ es) zero = (test e.0 ≡ true) × IsCut test es zero
IsCut test (e ∷ es) (suc n) = (test e.0 ≡ false) × IsCut test es n
