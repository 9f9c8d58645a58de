-- What a hand-out and a removal do to the links of the slots.
use Rattle.std.proofs.Common.{◌≡◌, ℕ, suc, ◌<◌, ◌≤◌, true, false, List, get_or, set, Option, Some, None, refl, sym, ap, ◌∙◌, inl, inr, ⊎_elim, arith, length-set}
use Rattle.std.specs.Option.{is_some}
use Rattle.managed.specs.SlotTable.{IsAbsent, generation_after, IsFullTable, handed_out, freed_at}
use Rattle.managed.specs.SlotLinks.{generation_of, generation_in, link_in, freed_from, IsSound, use_of}
use Rattle.managed.specs.declared.slot_key.SlotIndex.{SlotIndex}
use Rattle.managed.proofs.SlotReadLemmas.{free_slot, used_slot, gens, same_or_apart, get_gens, gens_set, gens_push, length_gens, in_use_set_some, in_use_set_none, in_use_push, in_same, generation_other, freed_frame, list_frame, absent_in_use, absent_new, after_positive}

-- ---- the place freed last is handed out
module _ (slots : List SlotIndex) (next count first g cap : ℕ) (sound : IsSound slots next (suc count) first g cap) where
  first_lt : first < next
  first_lt = sound.free_list.0

  first_free : get_or (gens slots next) first None ≡ None
  first_free = get_gens slots next first first_lt (omega (arith, sound.fits, sound.next_fits)) ∙ sound.free_list.1

  pub taken_free : IsSound (set slots first (used_slot g)) next count (link_in slots first) (generation_after g) cap
  taken_free = record {
    fits = omega (arith, sound.fits, length-set slots first (used_slot g));
    next_fits = sound.next_fits;
    small = sound.small;
    positive = (after_positive g sound.positive sound.bounded).0;
    bounded = (after_positive g sound.positive sound.bounded).1;
    free_list = list_frame slots first (used_slot g) next next count (link_in slots first) (omega arith) sound.free_list.2 sound.free_list.3;
    complete = λ place lt none. rw (freed_frame slots first (used_slot g) count (link_in slots first) sound.free_list.2) (⊎_elim
        (λ same. absurd (let clash : Some g ≡ None = sym (ap generation_of (in_same slots first (used_slot g) (omega (arith, first_lt, sound.fits, sound.next_fits)))) ∙ (ap (generation_in (set slots first (used_slot g))) (sym same) ∙ none) in cc))
        (λ apart. ⊎_elim (λ same. absurd (apart same)) (λ listed. listed) (sound.complete place lt (sym (generation_other slots first (used_slot g) place (λ same. apart (sym same))) ∙ none)))
        (same_or_apart place first));
    counted = rw (gens_set slots next first (used_slot g)) (omega (arith, sound.counted, in_use_set_some (gens slots next) first g (omega (arith, first_lt, length_gens slots next (omega (arith, sound.fits, sound.next_fits)))) first_free));
  }

  pub use_taken_free : use_of (set slots first (used_slot g)) next count (link_in slots first) (generation_after g) cap ≡ handed_out (use_of slots next (suc count) first g cap)
  use_taken_free = rw (gens_set slots next first (used_slot g), freed_frame slots first (used_slot g) count (link_in slots first) sound.free_list.2) refl

  pub free_not_full : IsFullTable (use_of slots next (suc count) first g cap) → ⊥
  free_not_full full = let clash : true ≡ false = sym (full first (omega (arith, first_lt, sound.next_fits))) ∙ ap is_some first_free in cc

-- ---- a new place is handed out
module _ (slots : List SlotIndex) (next count first g cap : ℕ) (sound : IsSound slots next count first g cap) where
  pub taken_new : next < cap → IsSound (set slots next (used_slot g)) (suc next) count first (generation_after g) cap
  taken_new lt =
      let absent = absent_new slots next count first next (omega arith) sound.free_list in
      record {
        fits = omega (arith, sound.fits, length-set slots next (used_slot g));
        next_fits = omega arith;
        small = sound.small;
        positive = (after_positive g sound.positive sound.bounded).0;
        bounded = (after_positive g sound.positive sound.bounded).1;
        free_list = list_frame slots next (used_slot g) next (suc next) count first (omega arith) absent sound.free_list;
        complete = λ place below none. rw (freed_frame slots next (used_slot g) count first absent) (⊎_elim
            (λ same. absurd (let clash : Some g ≡ None = sym (ap generation_of (in_same slots next (used_slot g) (omega (arith, sound.fits)))) ∙ (ap (generation_in (set slots next (used_slot g))) (sym same) ∙ none) in cc))
            (λ apart. sound.complete place (omega arith) (sym (generation_other slots next (used_slot g) place (λ same. apart (sym same))) ∙ none))
            (same_or_apart place next));
        counted = rw (gens_push slots next (used_slot g) (omega (arith, sound.fits))) (omega (arith, sound.counted, in_use_push (gens slots next) g));
      }

  pub free_within : count ≤ next
  free_within = omega (arith, sound.counted)

-- ---- a place is freed
module _ (slots : List SlotIndex) (next count first g cap q h : ℕ) (sound : IsSound slots next count first g cap) (below : q < next) (used : generation_in slots q ≡ Some h) where
  absent : IsAbsent q (freed_from slots count first)
  absent = absent_in_use slots next count first q h sound.free_list used

  link_freed : link_in (set slots q (free_slot first)) q ≡ first
  link_freed = rw (in_same slots q (free_slot first) (omega (arith, sound.fits, sound.next_fits))) refl

  in_gens : get_or (gens slots next) q None ≡ Some h
  in_gens = get_gens slots next q below (omega (arith, sound.fits, sound.next_fits)) ∙ used

  pub freed : IsSound (set slots q (free_slot first)) next (suc count) q g cap
  freed = record {
    fits = omega (arith, sound.fits, length-set slots q (free_slot first));
    next_fits = sound.next_fits;
    small = sound.small;
    positive = sound.positive;
    bounded = sound.bounded;
    free_list = rw link_freed (below, rw (in_same slots q (free_slot first) (omega (arith, sound.fits, sound.next_fits))) refl, rw (freed_frame slots q (free_slot first) count first absent) absent, list_frame slots q (free_slot first) next next count first (omega arith) absent sound.free_list);
    complete = λ place lt none. rw (link_freed, freed_frame slots q (free_slot first) count first absent) (⊎_elim (λ same. inl same)
        (λ apart. inr (sound.complete place lt (sym (generation_other slots q (free_slot first) place (λ same. apart (sym same))) ∙ none)))
        (same_or_apart place q));
    counted = rw (gens_set slots next q (free_slot first)) (omega (arith, sound.counted, in_use_set_none (gens slots next) q h in_gens));
  }

  pub use_freed : use_of (set slots q (free_slot first)) next (suc count) q g cap ≡ freed_at (use_of slots next count first g cap) q
  use_freed = rw (gens_set slots next q (free_slot first), link_freed, freed_frame slots q (free_slot first) count first absent) refl

  pub room_to_free : count < next
  room_to_free = omega (arith, sound.counted, in_use_set_none (gens slots next) q h in_gens)

some_or : (o : Option ℕ) → (o ≡ None → ⊥) → is_some o ≡ true
some_or None some = absurd (some refl)
some_or (Some g) some = refl

-- ---- no place is left
pub all_in_use : (slots : List SlotIndex) (next first g cap : ℕ) → IsSound slots next 0 first g cap → cap ≤ next → IsFullTable (use_of slots next 0 first g cap)
all_in_use slots next first g cap sound le place lt =
    some_or _ (λ none. sound.complete place (omega arith) (sym (get_gens slots next place (omega arith) (omega (arith, sound.fits, sound.next_fits))) ∙ none))
