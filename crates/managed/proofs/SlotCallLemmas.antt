-- The same as the calls of the links have it.
use Rattle.std.proofs.Common.{◌≡◌, ℕ, zero, suc, ◌-◌, ◌<◌, ◌≤◌, true, false, List, [], ◌∷◌, length, get_or, set, Option, Some, None, refl, sym, ap, subst, ◌∙◌, ◌^◌, ⊎_elim, arith}
use Rattle.std.specs.Option.{is_some}
use Rattle.std.proofs.lemmas.Bool.{cases_lt}
use Rattle.managed.specs.SlotTable.{generation_after, IsFullTable, handed_out, freed_at}
use Rattle.managed.specs.SlotLinks.{generation_in, link_in, freed_from, IsSound, use_of}
use Rattle.managed.specs.declared.slot_key.SlotIndex.{SlotIndex}
use Rattle.managed.proofs.SlotReadLemmas.{free_slot, used_slot, gens, get_gens, gens_push, length_gens}
use Rattle.managed.proofs.SlotStepLemmas.{taken_free, use_taken_free, free_not_full, freed, use_freed, room_to_free, all_in_use}

-- ---- the same as the calls have it
module _ (slots : List SlotIndex) (next count first g cap : ℕ) (sound : IsSound slots next count first g cap) where
  pub taken : (count' : ℕ) → suc count' ≡ count → IsSound (set slots first (used_slot g)) next count' (link_in slots first) (generation_after g) cap
  taken count' e = subst (λ n. IsSound slots next n first g cap → IsSound (set slots first (used_slot g)) next count' (link_in slots first) (generation_after g) cap) e (taken_free slots next count' first g cap) sound

  pub use_taken : (count' : ℕ) → suc count' ≡ count → use_of (set slots first (used_slot g)) next count' (link_in slots first) (generation_after g) cap ≡ handed_out (use_of slots next count first g cap)
  use_taken count' e = subst (λ n. IsSound slots next n first g cap → use_of (set slots first (used_slot g)) next count' (link_in slots first) (generation_after g) cap ≡ handed_out (use_of slots next n first g cap)) e (use_taken_free slots next count' first g cap) sound

  pub not_full : (count' : ℕ) → suc count' ≡ count → IsFullTable (use_of slots next count first g cap) → ⊥
  not_full count' e = subst (λ n. IsSound slots next n first g cap → IsFullTable (use_of slots next n first g cap) → ⊥) e (free_not_full slots next count' first g cap) sound

  pub first_below : 0 < count → first < length slots
  first_below some = subst (λ n. IsSound slots next n first g cap → first < length slots) {x = suc (count - 1)} (omega arith) (λ s. omega (arith, s.free_list.0, s.fits, s.next_fits)) sound

  pub full : count ≡ 0 → cap ≤ next → IsFullTable (use_of slots next count first g cap)
  full none le = subst (λ n. IsSound slots next n first g cap → IsFullTable (use_of slots next n first g cap)) (sym none) (λ s. all_in_use slots next first g cap s le) sound

  live_below : (q h : ℕ) → get_or (gens slots next) q None ≡ Some h → q < next
  live_below q h live = ⊎_elim (λ lt. lt) (λ le. absurd (let clash : Some h ≡ None = sym live ∙ past (gens slots next) q (omega (arith, length_gens slots next (omega (arith, sound.fits, sound.next_fits)))) in cc)) (cases_lt q next)
    where
      past : (xs : List (Option ℕ)) (q : ℕ) → length xs ≤ q → get_or xs q None ≡ None
      past [] q le = refl
      past (x ∷ xs) zero le = absurd (omega arith)
      past (x ∷ xs) (suc q) le = past xs q (omega arith)

  module _ (q h : ℕ) (live : get_or (gens slots next) q None ≡ Some h) where
    below_next : q < next
    below_next = live_below q h live

    is_used : generation_in slots q ≡ Some h
    is_used = sym (get_gens slots next q below_next (omega (arith, sound.fits, sound.next_fits))) ∙ live

    pub freed_live : IsSound (set slots q (free_slot first)) next (suc count) q g cap
    freed_live = freed slots next count first g cap q h sound below_next is_used

    pub use_freed_live : use_of (set slots q (free_slot first)) next (suc count) q g cap ≡ freed_at (use_of slots next count first g cap) q
    use_freed_live = use_freed slots next count first g cap q h sound below_next is_used

    pub live_room : (q < length slots) × (count < next) × (next < 2 ^ 63)
    live_room = (omega (arith, below_next, sound.fits, sound.next_fits), room_to_free slots next count first g cap q h sound below_next is_used, omega (arith, sound.next_fits, sound.small))

pub use_taken_new : (slots : List SlotIndex) (next count first g cap : ℕ) → IsSound slots next count first g cap → next < cap → freed_from slots count first ≡ [] → use_of (set slots next (used_slot g)) (suc next) count first (generation_after g) cap ≡ handed_out (use_of slots next count first g cap)
use_taken_new slots next zero first g cap sound lt none = rw (gens_push slots next (used_slot g) (omega (arith, sound.fits))) refl
use_taken_new slots next (suc count) first g cap sound lt none = absurd (cc)

pub new_not_full : (slots : List SlotIndex) (next count first g cap : ℕ) → IsSound slots next count first g cap → next < cap → IsFullTable (use_of slots next count first g cap) → ⊥
new_not_full slots next count first g cap sound lt all =
    let clash : true ≡ false = sym (all next lt) ∙ ap is_some (past (gens slots next) next (omega (arith, length_gens slots next (omega (arith, sound.fits, sound.next_fits))))) in cc
  where
    past : (xs : List (Option ℕ)) (q : ℕ) → length xs ≤ q → get_or xs q None ≡ None
    past [] q le = refl
    past (x ∷ xs) zero le = absurd (omega arith)
    past (x ∷ xs) (suc q) le = past xs q (omega arith)
