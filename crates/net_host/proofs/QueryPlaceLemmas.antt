-- The place of a query between the slots before it and those behind it.
use Rattle.std.proofs.Common.{◌≡◌, ℕ, ◌+◌, List, [], ◌∷◌, ◌++◌, length, map, sym, ◌∙◌, ap, ap₂, append_assoc, length-append}
use Rattle.std.proofs.Math.Seq.{get_or-append_seam}
use Rattle.std.proofs.lemmas.List.{length-map, map-append}
use Rattle.host_model.specs.QuerySlots.{Slot}
use Rattle.net_host.specs.QueryEmitter.{number_at}
use Rattle.net_host.specs.QueryStanding.{standing_in, number_in}

-- a slot at the end of a front, or before the rest
pub regrouped : {A : Type 0} (front passed : List A) (x : A) (rest : List A) → ((front ++ passed) ++ x ∷ []) ++ rest ≡ front ++ (passed ++ x ∷ rest)
regrouped front passed x rest = append_assoc (front ++ passed) (x ∷ []) rest ∙ append_assoc front passed (x ∷ rest)

pub mapped_in : {A B : Type 0} (f : A → B) (front passed : List A) (x : A) (rest : List A)
    → map f (front ++ (passed ++ x ∷ rest)) ≡ (map f front ++ map f passed) ++ f x ∷ map f rest
mapped_in f front passed x rest =
    ap (map f) (sym (append_assoc front passed (x ∷ rest))) ∙ map-append f (front ++ passed) (x ∷ rest)
    ∙ ap (λ more. more ++ f x ∷ map f rest) (map-append f front passed)

pub mapped : {A B : Type 0} (f : A → B) (front passed : List A) (x : A) (rest : List A)
    → map f (((front ++ passed) ++ x ∷ []) ++ rest) ≡ (map f front ++ map f passed) ++ f x ∷ map f rest
mapped f front passed x rest =
    ap (map f) (regrouped front passed x rest) ∙ mapped_in f front passed x rest

-- the numbers of slots whose last ones have the numbers of others
pub numbered : (front left rest : List Slot) → map number_in left ≡ map number_in rest → map number_in (front ++ left) ≡ map number_in (front ++ rest)
numbered front left rest same =
    map-append number_in front left ∙ ap (λ more. map number_in front ++ more) same ∙ sym (map-append number_in front rest)

as_long : {A B : Type 0} (f : Slot → A) (g : Slot → B) (front passed : List Slot)
    → length (map f front ++ map f passed) ≡ length (map g front ++ map g passed)
as_long f g front passed =
    length-append (map f front) (map f passed)
    ∙ ap₂ (λ a b. a + b) (length-map front f ∙ sym (length-map front g)) (length-map passed f ∙ sym (length-map passed g))
    ∙ sym (length-append (map g front) (map g passed))

pub number_is : (front passed : List Slot) (slot : Slot) (rest : List ℕ) (numbers : List ℕ)
    → numbers ≡ (map number_in front ++ map number_in passed) ++ number_in slot ∷ rest
    → number_at numbers (length (map standing_in front ++ map standing_in passed)) ≡ number_in slot
number_is front passed slot rest numbers are =
    ap₂ number_at are (as_long standing_in number_in front passed)
    ∙ get_or-append_seam (map number_in front ++ map number_in passed) (number_in slot) rest 0
