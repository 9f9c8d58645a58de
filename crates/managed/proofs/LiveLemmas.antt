-- Why a key finds its place until it is taken out.
use Rattle.std.proofs.Common.{◌≡◌, ℕ, zero, suc, ◌<◌, List, [], ◌∷◌, ◌++◌, length, get_or, set, Option, Some, None, IsSome, refl, sym, ap, ◌∙◌, length-set, arith}
use Rattle.managed.specs.declared.slot_key.SlotKey.{SlotKey}
use Rattle.managed.specs.SlotTable.{SlotUse, IsAbsent, AreFree, IsSoundUse, FreesLive, KeepsPlace, IsLiveKey, generation_at, key_handed_out, place_handed_out, handed_out, freed_at, taken_generations, still_free, first_or, after_steps}

-- ---- the generation at one place, once another place's is set
pub pushed_last : (xs : List (Option ℕ)) (y : Option ℕ) → get_or (xs ++ y ∷ []) (length xs) None ≡ y
pushed_last [] y = refl
pushed_last (x ∷ xs) y = pushed_last xs y

pushed_before : (xs : List (Option ℕ)) (p : ℕ) (y : Option ℕ) → p < length xs → get_or (xs ++ y ∷ []) p None ≡ get_or xs p None
pushed_before [] p y lt = absurd (omega arith)
pushed_before (x ∷ xs) zero y lt = refl
pushed_before (x ∷ xs) (suc p) y lt = pushed_before xs p y (omega arith)

set_there : (xs : List (Option ℕ)) (p : ℕ) (y : Option ℕ) → p < length xs → get_or (set xs p y) p None ≡ y
set_there [] p y lt = absurd (omega arith)
set_there (x ∷ xs) zero y lt = refl
set_there (x ∷ xs) (suc p) y lt = set_there xs p y (omega arith)

set_elsewhere : (xs : List (Option ℕ)) (q p : ℕ) (y : Option ℕ) → (q ≡ p → ⊥) → get_or (set xs q y) p None ≡ get_or xs p None
set_elsewhere [] q p y apart = refl
set_elsewhere (x ∷ xs) zero zero y apart = absurd (apart refl)
set_elsewhere (x ∷ xs) zero (suc p) y apart = refl
set_elsewhere (x ∷ xs) (suc q) zero y apart = refl
set_elsewhere (x ∷ xs) (suc q) (suc p) y apart = set_elsewhere xs q p y (λ e. apart (ap suc e))

in_use_below : (xs : List (Option ℕ)) (p : ℕ) → (get_or xs p None ≡ None → ⊥) → p < length xs
in_use_below [] p used = absurd (used refl)
in_use_below (x ∷ xs) zero used = omega arith
in_use_below (x ∷ xs) (suc p) used = omega (arith, in_use_below xs p used)

some_not_none : (o : Option ℕ) → IsSome o → o ≡ None → ⊥
some_not_none None some none = absurd (cc)
some_not_none (Some g) some none = absurd (cc)

is_not_none : (o : Option ℕ) (g : ℕ) → o ≡ Some g → o ≡ None → ⊥
is_not_none o g is none = let clash : Some g ≡ None = sym is ∙ none in absurd (cc)

-- ---- the freed places
free_apart : (xs : List (Option ℕ)) (freed : List ℕ) (p : ℕ) → AreFree xs freed → (get_or xs p None ≡ None → ⊥) → IsAbsent p freed
free_apart xs [] p free used = tt
free_apart xs (q ∷ freed) p free used = (λ e. used (ap (λ (n : ℕ). get_or xs n None) e ∙ free.1), free_apart xs freed p free.3 used)

free_after_set : (xs : List (Option ℕ)) (freed : List ℕ) (p : ℕ) (y : Option ℕ) → AreFree xs freed → IsAbsent p freed → AreFree (set xs p y) freed
free_after_set xs [] p y free absent = tt
free_after_set xs (q ∷ freed) p y free absent =
    (omega (arith, free.0, length-set xs p y), set_elsewhere xs p q y absent.0 ∙ free.1, free.2, free_after_set xs freed p y free.3 absent.1)

taken_sound : (xs : List (Option ℕ)) (freed : List ℕ) (g : ℕ) → AreFree xs freed → AreFree (taken_generations freed xs g) (still_free freed)
taken_sound xs [] g free = tt
taken_sound xs (q ∷ freed) g free = free_after_set xs freed q (Some g) free.3 free.2

taken_there : (xs : List (Option ℕ)) (freed : List ℕ) (g : ℕ) → AreFree xs freed → get_or (taken_generations freed xs g) (first_or freed (length xs)) None ≡ Some g
taken_there xs [] g free = pushed_last xs (Some g)
taken_there xs (q ∷ freed) g free = set_there xs q (Some g) free.0

next_apart : (xs : List (Option ℕ)) (freed : List ℕ) (p : ℕ) → AreFree xs freed → (get_or xs p None ≡ None → ⊥) → first_or freed (length xs) ≡ p → ⊥
next_apart xs [] p free used is = absurd (omega (arith, in_use_below xs p used))
next_apart xs (q ∷ freed) p free used is = used (ap (λ (n : ℕ). get_or xs n None) (sym is) ∙ free.1)

taken_elsewhere : (xs : List (Option ℕ)) (freed : List ℕ) (g p h : ℕ) → AreFree xs freed → get_or xs p None ≡ Some h → get_or (taken_generations freed xs g) p None ≡ Some h
taken_elsewhere xs [] g p h free is = pushed_before xs p (Some g) (in_use_below xs p (is_not_none _ h is)) ∙ is
taken_elsewhere xs (q ∷ freed) g p h free is = set_elsewhere xs q p (Some g) (next_apart xs (q ∷ freed) p free (is_not_none _ h is)) ∙ is

-- ---- the table
pub sound_handed : (u : SlotUse) → IsSoundUse u → IsSoundUse (handed_out u)
sound_handed u = taken_sound u.generations u.freed u.next_generation

pub sound_freed : (u : SlotUse) (place : ℕ) → IsSoundUse u → IsSome (generation_at u place) → IsSoundUse (freed_at u place)
sound_freed u place sound some =
    let used = some_not_none (generation_at u place) some in let below = in_use_below u.generations place used in let absent = free_apart u.generations u.freed place sound used in
    (omega (arith, below, length-set u.generations place None), set_there u.generations place None below, absent, free_after_set u.generations u.freed place None sound absent)

pub found_handed : (u : SlotUse) → IsSoundUse u → IsLiveKey (handed_out u) (key_handed_out u)
found_handed u = taken_there u.generations u.freed u.next_generation

pub not_handed : (u : SlotUse) (key : SlotKey) → IsSoundUse u → IsLiveKey u key → place_handed_out u ≡ key.place → ⊥
not_handed u key sound live = next_apart u.generations u.freed key.place sound (is_not_none _ key.generation live)

pub kept : (u : SlotUse) (key : SlotKey) (steps : List (Option ℕ)) → IsSoundUse u → FreesLive u steps → KeepsPlace key.place steps → IsLiveKey u key → IsLiveKey (after_steps u steps) key
kept u key [] sound lives keeps live = live
kept u key (None ∷ steps) sound lives keeps live =
    kept (handed_out u) key steps (sound_handed u sound) lives keeps (taken_elsewhere u.generations u.freed u.next_generation key.place key.generation sound live)
kept u key (Some q ∷ steps) sound lives keeps live =
    kept (freed_at u q) key steps (sound_freed u q sound lives.0) lives.1 keeps.1 (set_elsewhere u.generations q key.place None (λ e. keeps.0 (sym e)) ∙ live)
