-- What the slots show, and what one written slot changes.
use Rattle.std.proofs.Common.{◌≡◌, ◌⊎◌, ℕ, zero, suc, ◌+◌, ◌<◌, ◌≤◌, List, [], ◌∷◌, ◌++◌, length, get_or, set, take, map, Option, Some, None, refl, sym, ap, ◌∙◌, inl, inr, ⊎_elim, arith}
use Rattle.std.proofs.lemmas.Bool.{cases_lt}
use Rattle.std.proofs.lemmas.Bool.Decides.{nat_tests}
use Rattle.managed.specs.SlotTable.{IsAbsent, last_generation, generation_after}
use Rattle.managed.specs.SlotLinks.{generation_of, generation_in, link_in, freed_from, IsFreeList, in_use}
use Rattle.managed.specs.declared.slot_key.SlotIndex.{SlotIndex}
use Rattle.managed.specs.declared.slot_key.SlotState.TheVariants.{Free, InUse}

abbrev pub free_slot : ℕ → SlotIndex
free_slot next = record { state = Free next }

abbrev pub used_slot : ℕ → SlotIndex
used_slot generation = record { state = InUse generation }

abbrev pub gens : List SlotIndex → ℕ → List (Option ℕ)
gens slots next = map generation_of (take next slots)

pub same_or_apart : (a b : ℕ) → (a ≡ b) ⊎ (a ≡ b → ⊥)
same_or_apart a b = ⊎_elim (λ lt. inr (λ same. omega arith)) (λ le. ⊎_elim (λ lt. inr (λ same. omega arith)) (λ le'. inl (omega arith)) (cases_lt b a)) (cases_lt a b)

pub get_gens : (slots : List SlotIndex) (next p : ℕ) → p < next → next ≤ length slots → get_or (gens slots next) p None ≡ generation_in slots p
get_gens [] next p lt le = absurd (omega arith)
get_gens (s ∷ slots) zero p lt le = absurd (omega arith)
get_gens (s ∷ slots) (suc next) zero lt le = refl
get_gens (s ∷ slots) (suc next) (suc p) lt le = get_gens slots next p (omega arith) (omega arith)

pub gens_set : (slots : List SlotIndex) (next p : ℕ) (x : SlotIndex) → gens (set slots p x) next ≡ set (gens slots next) p (generation_of x)
gens_set [] zero p x = refl
gens_set [] (suc next) p x = refl
gens_set (s ∷ slots) zero zero x = refl
gens_set (s ∷ slots) zero (suc p) x = refl
gens_set (s ∷ slots) (suc next) zero x = refl
gens_set (s ∷ slots) (suc next) (suc p) x = ap (λ l. generation_of s ∷ l) (gens_set slots next p x)

pub gens_push : (slots : List SlotIndex) (next : ℕ) (x : SlotIndex) → next < length slots → gens (set slots next x) (suc next) ≡ gens slots next ++ generation_of x ∷ []
gens_push [] next x lt = absurd (omega arith)
gens_push (s ∷ slots) zero x lt = refl
gens_push (s ∷ slots) (suc next) x lt = ap (λ l. generation_of s ∷ l) (gens_push slots next x (omega arith))

pub length_gens : (slots : List SlotIndex) (next : ℕ) → next ≤ length slots → length (gens slots next) ≡ next
length_gens [] zero le = refl
length_gens [] (suc next) le = absurd (omega arith)
length_gens (s ∷ slots) zero le = refl
length_gens (s ∷ slots) (suc next) le = ap suc (length_gens slots next (omega arith))

pub length_freed : (slots : List SlotIndex) (count first : ℕ) → length (freed_from slots count first) ≡ count
length_freed slots zero first = refl
length_freed slots (suc count) first = ap suc (length_freed slots count (link_in slots first))

-- ---- how many places are in use
pub in_use_set_some : (xs : List (Option ℕ)) (p g : ℕ) → p < length xs → get_or xs p None ≡ None → in_use (set xs p (Some g)) ≡ in_use xs + 1
in_use_set_some [] p g lt none = absurd (omega arith)
in_use_set_some (None ∷ xs) zero g lt none = refl
in_use_set_some (Some h ∷ xs) zero g lt none = absurd (cc)
in_use_set_some (None ∷ xs) (suc p) g lt none = in_use_set_some xs p g (omega arith) none
in_use_set_some (Some h ∷ xs) (suc p) g lt none = omega (arith, in_use_set_some xs p g (omega arith) none)

pub in_use_set_none : (xs : List (Option ℕ)) (p g : ℕ) → get_or xs p None ≡ Some g → in_use (set xs p None) + 1 ≡ in_use xs
in_use_set_none [] p g some = absurd (cc)
in_use_set_none (None ∷ xs) zero g some = absurd (cc)
in_use_set_none (Some h ∷ xs) zero g some = refl
in_use_set_none (None ∷ xs) (suc p) g some = in_use_set_none xs p g some
in_use_set_none (Some h ∷ xs) (suc p) g some = omega (arith, in_use_set_none xs p g some)

pub in_use_push : (xs : List (Option ℕ)) (g : ℕ) → in_use (xs ++ Some g ∷ []) ≡ in_use xs + 1
in_use_push [] g = refl
in_use_push (None ∷ xs) g = in_use_push xs g
in_use_push (Some h ∷ xs) g = omega (arith, in_use_push xs g)

-- ---- one slot written
pub in_same : (slots : List SlotIndex) (p : ℕ) (x : SlotIndex) → p < length slots → get_or (set slots p x) p (free_slot 0) ≡ x
in_same [] p x lt = absurd (omega arith)
in_same (s ∷ slots) zero x lt = refl
in_same (s ∷ slots) (suc p) x lt = in_same slots p x (omega arith)

in_other : (slots : List SlotIndex) (p q : ℕ) (x : SlotIndex) → (q ≡ p → ⊥) → get_or (set slots p x) q (free_slot 0) ≡ get_or slots q (free_slot 0)
in_other [] p q x apart = refl
in_other (s ∷ slots) zero zero x apart = absurd (apart refl)
in_other (s ∷ slots) zero (suc q) x apart = refl
in_other (s ∷ slots) (suc p) zero x apart = refl
in_other (s ∷ slots) (suc p) (suc q) x apart = in_other slots p q x (λ same. apart (ap suc same))

module _ (slots : List SlotIndex) (q : ℕ) (x : SlotIndex) where
  link_other : (p : ℕ) → (q ≡ p → ⊥) → link_in (set slots q x) p ≡ link_in slots p
  link_other p apart = rw (in_other slots q p x (λ same. apart (sym same))) refl

  pub generation_other : (p : ℕ) → (q ≡ p → ⊥) → generation_in (set slots q x) p ≡ generation_in slots p
  generation_other p apart = rw (in_other slots q p x (λ same. apart (sym same))) refl

  pub freed_frame : (count first : ℕ) → IsAbsent q (freed_from slots count first) → freed_from (set slots q x) count first ≡ freed_from slots count first
  freed_frame zero first absent = refl
  freed_frame (suc count) first absent = rw (link_other first absent.0) (ap (λ l. first ∷ l) (freed_frame count (link_in slots first) absent.1))

  pub list_frame : (next next' count first : ℕ) → next ≤ next' → IsAbsent q (freed_from slots count first) → IsFreeList slots next count first → IsFreeList (set slots q x) next' count first
  list_frame next next' zero first le absent free = tt
  list_frame next next' (suc count) first le absent free =
      rw (link_other first absent.0) (omega (arith, free.0), generation_other first absent.0 ∙ free.1, rw (freed_frame count (link_in slots first) absent.1) free.2, list_frame next next' count (link_in slots first) le absent.1 free.3)

pub absent_in_use : (slots : List SlotIndex) (next count first q g : ℕ) → IsFreeList slots next count first → generation_in slots q ≡ Some g → IsAbsent q (freed_from slots count first)
absent_in_use slots next zero first q g free some = tt
absent_in_use slots next (suc count) first q g free some =
    (λ same. (let clash : Some g ≡ None = sym some ∙ (ap (generation_in slots) same ∙ free.1) in cc), absent_in_use slots next count (link_in slots first) q g free.3 some)

pub absent_new : (slots : List SlotIndex) (next count first q : ℕ) → next ≤ q → IsFreeList slots next count first → IsAbsent q (freed_from slots count first)
absent_new slots next zero first q le free = tt
absent_new slots next (suc count) first q le free = (λ same. omega (arith, free.0), absent_new slots next count (link_in slots first) q le free.3)

pub after_positive : (g : ℕ) → 0 < g → g ≤ last_generation → (0 < generation_after g) × (generation_after g ≤ last_generation)
after_positive g low high = (grind (arith, nat_tests), grind (arith, nat_tests))
