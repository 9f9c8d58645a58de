-- Places whose empty ones come last.
use Rattle.std.proofs.Common.{◌≡◌, ℕ, zero, suc, ◌<◌, ◌≤◌, List, [], ◌∷◌, true, false, length, get_or, Option, Some, None, refl, sym, ap, ◌∙◌, arith}
use Rattle.std.specs.declared.cmp.Ordering.{Ordering}
use Rattle.std.specs.List.Sorted.{IsStrictlySortedBy}
use Rattle.std.specs.Option.{is_some}
use Rattle.managed.specs.SortedMap.{filled, IsVacant, IsPacked, IsSortedPlaces}

pub vacant_at : {X : Type 0} (places : List (Option X)) (j : ℕ) (d : Option X) → IsVacant places → j < length places → get_or places j d ≡ None
vacant_at [] j d vacant lt = absurd (omega arith)
vacant_at (None ∷ places) zero d vacant lt = refl
vacant_at (None ∷ places) (suc j) d vacant lt = vacant_at places j d vacant (omega arith)
vacant_at (Some x ∷ places) j d vacant lt = absurd vacant

pub filled_vacant : {X : Type 0} (places : List (Option X)) → IsVacant places → filled places ≡ []
filled_vacant [] vacant = refl
filled_vacant (None ∷ places) vacant = refl
filled_vacant (Some x ∷ places) vacant = absurd vacant

pub packed_vacant : {X : Type 0} (places : List (Option X)) → IsVacant places → IsPacked places
packed_vacant [] vacant = tt
packed_vacant (None ∷ places) vacant = vacant
packed_vacant (Some x ∷ places) vacant = absurd vacant

module _ {X : Type 0} where
  pub packed_parted : (places : List (Option X)) → IsPacked places → (i j : ℕ) (d : Option X) → i ≤ j → j < length places → is_some (get_or places j d) ≡ true → is_some (get_or places i d) ≡ true
  packed_parted [] packed i j d le lt some = absurd (omega arith)
  packed_parted (place ∷ places) packed zero zero d le lt some = some
  packed_parted (place ∷ places) packed (suc i) zero d le lt some = absurd (omega arith)
  packed_parted (Some x ∷ places) packed zero (suc j) d le lt some = refl
  packed_parted (None ∷ places) packed i (suc j) d le lt some =
      let empty = vacant_at places j d packed (omega arith) in
      absurd (let clash : false ≡ true = sym (ap is_some empty) ∙ some in cc)
  packed_parted (Some x ∷ places) packed (suc i) (suc j) d le lt some = packed_parted places packed i j d (omega arith) (omega arith) some

  -- the pairs are as many as the places before the first empty one
  pub parted_len : (places : List (Option X)) (n : ℕ) → n ≤ length places → ((k : ℕ) → k < n → is_some (get_or places k None) ≡ true) → ((k : ℕ) → n ≤ k → k < length places → is_some (get_or places k None) ≡ false) → n ≡ length (filled places)
  parted_len [] n le before after = omega arith
  parted_len (None ∷ places) zero le before after = refl
  parted_len (None ∷ places) (suc n) le before after = absurd (let clash : false ≡ true = before 0 (omega arith) in cc)
  parted_len (Some x ∷ places) zero le before after = absurd (let clash : true ≡ false = after 0 (omega arith) (omega arith) in cc)
  parted_len (Some x ∷ places) (suc n) le before after =
      let rest = parted_len places n (omega arith) (λ k lt. before (suc k) (omega arith)) (λ k le lt. after (suc k) (omega arith) (omega arith)) in
      omega arith

  -- whether the last place has an item tells whether each has one
  pub full_last : (places : List (Option X)) (n : ℕ) (r : Option X) → IsPacked places → suc n ≡ length places → r ≡ get_or places n r → (is_some r ≡ true → length (filled places) ≡ length places) × (length (filled places) ≡ length places → is_some r ≡ true)
  full_last [] n r packed last is = absurd (omega arith)
  full_last (None ∷ places) zero r packed last is = (λ some. absurd (let clash : false ≡ true = sym (ap is_some is) ∙ some in cc), λ full. absurd (omega arith))
  full_last (None ∷ places) (suc n) r packed last is =
      let empty = vacant_at places n r packed (omega arith) in
      (λ some. absurd (let clash : false ≡ true = sym (ap is_some (is ∙ empty)) ∙ some in cc), λ full. absurd (omega arith))
  full_last (Some x ∷ []) zero r packed last is = (λ _. refl, λ _. ap is_some is)
  full_last (Some x ∷ y ∷ places) zero r packed last is = absurd (omega arith)
  full_last (Some x ∷ places) (suc n) r packed last is =
      let rest = full_last places n r packed (omega arith) is in
      (λ some. ap suc (rest.0 some), λ full. rest.1 (omega arith))

  pub vacant_from : (places : List (Option X)) → ((k : ℕ) → k < length places → get_or places k None ≡ None) → IsVacant places
  vacant_from [] empty = tt
  vacant_from (None ∷ places) empty = vacant_from places (λ k lt. empty (suc k) (omega arith))
  vacant_from (Some x ∷ places) empty = absurd (let clash : Some x ≡ None = empty 0 (omega arith) in cc)

pub filled_le : {X : Type 0} (places : List (Option X)) → length (filled places) ≤ length places
filled_le [] = omega arith
filled_le (None ∷ places) = omega arith
filled_le (Some x ∷ places) = omega (arith, filled_le places)

pub sorted_vacant : {K V : Type 0} (cmp : K → K → Ordering) (places : List (Option (K × V))) → IsVacant places → IsSortedPlaces cmp places
unfolding IsStrictlySortedBy
sorted_vacant cmp places vacant = (packed_vacant places vacant, rw (filled_vacant places vacant) tt)
