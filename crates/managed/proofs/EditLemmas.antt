-- What an edit of the places does to the pairs.
use Rattle.std.proofs.Common.{◌≡◌, ℕ, zero, suc, ◌-◌, ◌<◌, List, [], ◌∷◌, ◌++◌, length, set, take, drop, Option, Some, None, refl, sym, ap, ◌∙◌, arith}
use Rattle.std.proofs.lemmas.List.{length-drop}
use Rattle.std.proofs.Math.Seq.{take-length}
use Rattle.std.specs.declared.cmp.Ordering.{Ordering}
use Rattle.std.specs.Cmp.{IsTotalOrder}
use Rattle.std.specs.Map.{remove_entry}
use Rattle.std.specs.BTreeMap.{is_at}
use Rattle.managed.specs.SortedMap.{filled, IsPacked, with_pair}
use Rattle.managed.specs.Places.{IsFoundAt, IsGapAt, pushed, pulled, closed_up}
use Rattle.managed.proofs.PackedLemmas.{filled_vacant, packed_vacant}

module _ {K V : Type 0} (compare : K → Ordering) where
  -- without the pair that was found
  pub filled-closed_up : (places : List (Option (K × V))) (at : ℕ) → IsFoundAt compare (filled places) at → filled (take at places ++ closed_up (drop at places)) ≡ remove_entry (is_at compare) (filled places)
  filled-closed_up [] at found = absurd (omega (arith, found.in_range))
  filled-closed_up (None ∷ places) at found = absurd (omega (arith, found.in_range))
  filled-closed_up (Some e ∷ places) zero found = rw found.here (filled-pulled places)
    where
      filled-pulled : (places : List (Option (K × V))) → filled (pulled places) ≡ filled places
      filled-pulled [] = refl
      filled-pulled (None ∷ places) = refl
      filled-pulled (Some e ∷ places) = ap (λ es. e ∷ es) (filled-pulled places)
  filled-closed_up (Some e ∷ places) (suc at) found = rw found.above.0 (ap (λ es. e ∷ es) (filled-closed_up places at (record { in_range = omega (arith, found.in_range); above = found.above.1; here = found.here })))

  packed-pulled : (places : List (Option (K × V))) → IsPacked places → IsPacked (pulled places)
  packed-pulled [] packed = tt
  packed-pulled (None ∷ places) packed = packed
  packed-pulled (Some e ∷ places) packed = packed-pulled places packed

  pub packed-closed_up : (places : List (Option (K × V))) (at : ℕ) → IsFoundAt compare (filled places) at → IsPacked places → IsPacked (take at places ++ closed_up (drop at places))
  packed-closed_up [] at found packed = absurd (omega (arith, found.in_range))
  packed-closed_up (None ∷ places) at found packed = absurd (omega (arith, found.in_range))
  packed-closed_up (Some e ∷ places) zero found packed = packed-pulled places packed
  packed-closed_up (Some e ∷ places) (suc at) found packed = packed-closed_up places at (record { in_range = omega (arith, found.in_range); above = found.above.1; here = found.here }) packed

  -- another pair at the place that was found
  pub packed-set : (places : List (Option (K × V))) (at : ℕ) (e : K × V) → IsFoundAt compare (filled places) at → IsPacked places → IsPacked (set places at (Some e))
  packed-set [] at e found packed = absurd (omega (arith, found.in_range))
  packed-set (None ∷ places) at e found packed = absurd (omega (arith, found.in_range))
  packed-set (Some f ∷ places) zero e found packed = packed
  packed-set (Some f ∷ places) (suc at) e found packed = packed-set places at e (record { in_range = omega (arith, found.in_range); above = found.above.1; here = found.here }) packed

module _ {K V : Type 0} {cmp : K → K → Ordering} (total : IsTotalOrder cmp) (key : K) where
  pub filled-set : (places : List (Option (K × V))) (at : ℕ) (value : V) → IsFoundAt (cmp key) (filled places) at → filled (set places at (Some (key, value))) ≡ with_pair cmp (filled places) key value
  filled-set [] at value found = absurd (omega (arith, found.in_range))
  filled-set (None ∷ places) at value found = absurd (omega (arith, found.in_range))
  filled-set (Some e ∷ places) zero value found = rw found.here refl
  filled-set (Some e ∷ places) (suc at) value found = rw found.above.0 (ap (λ es. e ∷ es) (filled-set places at value (record { in_range = omega (arith, found.in_range); above = found.above.1; here = found.here })))

  filled-pushed : (e : K × V) (places : List (Option (K × V))) → IsPacked places → length (filled places) < length places → filled (pushed (Some e) places) ≡ e ∷ filled places
  filled-pushed e [] packed room = absurd (omega arith)
  filled-pushed e (None ∷ places) packed room = ap (λ es. e ∷ es) (filled_vacant places packed)
  filled-pushed e (Some f ∷ places) packed room = ap (λ es. e ∷ es) (filled-pushed f places packed (omega arith))

  packed-pushed : (e : K × V) (places : List (Option (K × V))) → IsPacked places → IsPacked (pushed (Some e) places)
  packed-pushed e [] packed = tt
  packed-pushed e (None ∷ places) packed = packed_vacant places packed
  packed-pushed e (Some f ∷ places) packed = packed-pushed f places packed

  -- a new pair in the gap
  pub filled-inserted : (places : List (Option (K × V))) (at : ℕ) (value : V) → IsPacked places → length (filled places) < length places → IsGapAt (cmp key) (filled places) at → filled (take at places ++ pushed (Some (key, value)) (drop at places)) ≡ with_pair cmp (filled places) key value
  filled-inserted [] at value packed room gap = absurd (omega arith)
  filled-inserted (None ∷ places) zero value packed room gap = ap (λ es. (key, value) ∷ es) (filled_vacant places packed)
  filled-inserted (None ∷ places) (suc at) value packed room gap = absurd (omega (arith, gap.in_range))
  filled-inserted (Some e ∷ places) zero value packed room gap = rw gap.here (ap (λ es. (key, value) ∷ es) (filled-pushed e places packed (omega arith)))
  filled-inserted (Some e ∷ places) (suc at) value packed room gap = rw gap.above.0 (ap (λ es. e ∷ es) (filled-inserted places at value packed (omega arith) (record { in_range = omega (arith, gap.in_range); above = gap.above.1; here = gap.here })))

  pub packed-inserted : (places : List (Option (K × V))) (at : ℕ) (value : V) → IsPacked places → IsGapAt (cmp key) (filled places) at → IsPacked (take at places ++ pushed (Some (key, value)) (drop at places))
  packed-inserted [] zero value packed gap = tt
  packed-inserted [] (suc at) value packed gap = tt
  packed-inserted (None ∷ places) zero value packed gap = packed_vacant places packed
  packed-inserted (None ∷ places) (suc at) value packed gap = absurd (omega (arith, gap.in_range))
  packed-inserted (Some e ∷ places) zero value packed gap = packed-pushed e places packed
  packed-inserted (Some e ∷ places) (suc at) value packed gap = packed-inserted places at value packed (record { in_range = omega (arith, gap.in_range); above = gap.above.1; here = gap.here })

module _ {X : Type 0} where
  -- a list of one more than n places, turned up by one, with another item in front
  turned : (xs ys : List (Option X)) (n : ℕ) (item : Option X) → n < length xs → set (drop n (take (suc n) xs) ++ ys) 0 item ≡ item ∷ ys
  turned [] ys n item lt = absurd (omega arith)
  turned (y ∷ xs) ys zero item lt = refl
  turned (y ∷ xs) ys (suc n) item lt = turned xs ys n item (omega arith)

  shorter : (xs : List (Option X)) (n : ℕ) → take n (take (suc n) xs) ≡ take n xs
  shorter [] zero = refl
  shorter [] (suc n) = refl
  shorter (x ∷ xs) zero = refl
  shorter (x ∷ xs) (suc n) = ap (λ l. x ∷ l) (shorter xs n)

  turned_back : (xs : List (Option X)) (n : ℕ) (item : Option X) → n < length xs → set (drop n (take (suc n) xs) ++ take n (take (suc n) xs)) 0 item ++ drop (suc n) xs ≡ item ∷ (take n xs ++ drop (suc n) xs)
  turned_back xs n item lt =
      let front = turned xs (take n (take (suc n) xs)) n item lt in
      rw front (ap (λ l. item ∷ (l ++ drop (suc n) xs)) (shorter xs n))

  -- there is an empty place
  pub pushed_room : (xs : List (Option X)) (x : X) (n end : ℕ) → end ≡ suc n → n ≡ length (filled xs) → n < length xs → set (drop n (take end xs) ++ take n (take end xs)) 0 (Some x) ++ drop end xs ≡ pushed (Some x) xs
  pushed_room xs x n end next count room = rw next (turned_back xs n (Some x) room ∙ sym (shape x xs n count room))
    where
      shape : (x : X) (xs : List (Option X)) (n : ℕ) → n ≡ length (filled xs) → n < length xs → pushed (Some x) xs ≡ Some x ∷ (take n xs ++ drop (suc n) xs)
      shape x [] n count room = absurd (omega arith)
      shape x (None ∷ xs) zero count room = refl
      shape x (None ∷ xs) (suc n) count room = absurd (omega arith)
      shape x (Some y ∷ xs) zero count room = absurd (omega arith)
      shape x (Some y ∷ xs) (suc n) count room = ap (λ l. Some x ∷ l) (shape y xs n (omega arith) (omega arith))

  -- there is none, and the last item is lost
  pub pushed_full : (xs : List (Option X)) (x : X) (n end : ℕ) → end ≡ suc n → end ≡ length (filled xs) → end ≡ length xs → set (drop n (take end xs) ++ take n (take end xs)) 0 (Some x) ++ drop end xs ≡ pushed (Some x) xs
  pushed_full xs x n end next count full = rw next (turned_back xs n (Some x) (omega arith) ∙ sym (shape x xs n (omega arith) (omega arith)))
    where
      shape : (x : X) (xs : List (Option X)) (n : ℕ) → suc n ≡ length (filled xs) → suc n ≡ length xs → pushed (Some x) xs ≡ Some x ∷ (take n xs ++ drop (suc n) xs)
      shape x [] n count full = absurd (omega arith)
      shape x (None ∷ xs) n count full = absurd (omega arith)
      shape x (Some y ∷ []) zero count full = refl
      shape x (Some y ∷ z ∷ xs) zero count full = absurd (omega arith)
      shape x (Some y ∷ xs) (suc n) count full = ap (λ l. Some x ∷ l) (shape y xs n (omega arith) (omega arith))

module _ {X : Type 0} where
  -- the places from one on
  pub packed_rest : (at : ℕ) (places : List (Option X)) → IsPacked places → IsPacked (take (length places - at) (drop at places))
  packed_rest at places packed = rw (sym (length-drop at places)) (rw (take-length (drop at places)) (packed_drop at places packed))
    where
      packed_drop : (at : ℕ) (places : List (Option X)) → IsPacked places → IsPacked (drop at places)
      packed_drop zero places packed = packed
      packed_drop (suc at) [] packed = tt
      packed_drop (suc at) (None ∷ places) packed = packed_drop at places (packed_vacant places packed)
      packed_drop (suc at) (Some x ∷ places) packed = packed_drop at places packed
