-- The looks of an event up to the first message, and how they go on.
use Rattle.std.proofs.Common.{◌≡◌, ℕ, true, false, List, [], ◌∷◌, ◌++◌, refl, ◌∙◌, ap}
use Rattle.std.proofs.lemmas.Bool.{cond-true, cond-false}
use Rattle.host_model.specs.QueryLooks.{Around, Ask, Seen, Kept, Named, seen_at, Looks, no_looks, kept_then, named_then, seen_then, looks_from}
use Rattle.host_model.specs.QuerySlots.{Query, Slot, is_any_due}

-- the looks at slots up to the first one that names a message
pub data Segment : Type 0 where
  Ends : List Slot → Segment
  Reaches : List Slot → Slot → Ask → Query → Query → List Slot → Segment

abbrev pub behind_kept : Slot → Segment → Segment
behind_kept kept (Ends left) = Ends (kept ∷ left)
behind_kept kept (Reaches passed slot ask refused sent rest) = Reaches (kept ∷ passed) slot ask refused sent rest

abbrev pub segment_on : Slot → List Slot → Segment → Seen → Segment
segment_on slot rest next (Kept kept) = behind_kept kept next
segment_on slot rest next (Named ask refused sent) = Reaches [] slot ask refused sent rest

abbrev pub segment : Around → ℕ → List Slot → Segment
segment around at [] = Ends []
segment around at (slot ∷ slots) = segment_on slot slots (segment around at slots) (seen_at around at slot)

-- the looks of an event
abbrev pub with_front : List Slot → Looks → Looks
with_front front looks = record looks { slots = front ++ looks.slots }

abbrev pub looks_of : Around → ℕ → Segment → Looks
looks_of around at (Ends left) = no_looks left
looks_of around at (Reaches passed slot ask refused sent rest) =
    with_front passed (named_then (around.hop ask.to) ask refused sent rest (looks_from around at false rest))

looks_behind : (around : Around) (at : ℕ) (kept : Slot) (next : Segment)
    → kept_then kept (looks_of around at next) ≡ looks_of around at (behind_kept kept next)
looks_behind around at kept (Ends left) = refl
looks_behind around at kept (Reaches passed slot ask refused sent rest) = refl

module _ (around : Around) (at : ℕ) where
  looks_on : (slot : Slot) (slots : List Slot) (seen : Seen) → looks_from around at true slots ≡ looks_of around at (segment around at slots)
      → seen_then around.hop seen slots (λ passed. looks_from around at passed slots)
      ≡ looks_of around at (segment_on slot slots (segment around at slots) seen)
  looks_on slot slots (Kept kept) more = ap (kept_then kept) more ∙ looks_behind around at kept (segment around at slots)
  looks_on slot slots (Named ask refused sent) more = refl

  pub looks_are : (slots : List Slot) → looks_from around at true slots ≡ looks_of around at (segment around at slots)
  looks_are [] = refl
  looks_are (slot ∷ slots) = looks_on slot slots (seen_at around at slot) (looks_are slots)

  -- the looks begin where one is due
  pub looks_begin : (slots : List Slot) → is_any_due at slots ≡ true → looks_from around at false slots ≡ looks_from around at true slots
  looks_begin [] due = refl
  looks_begin (slot ∷ slots) due = cond-true (is_any_due at (slot ∷ slots)) _ _ due

  pub looks_none : (slots : List Slot) → is_any_due at slots ≡ false → looks_from around at false slots ≡ no_looks slots
  looks_none [] due = refl
  looks_none (slot ∷ slots) due = cond-false (is_any_due at (slot ∷ slots)) _ _ due
