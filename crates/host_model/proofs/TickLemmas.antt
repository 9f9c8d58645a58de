-- A list of ticks is a script.
use Rattle.std.proofs.Common.{◌≡◌, ℕ, List, [], ◌∷◌, length, sym, refl, arith, append-nil}
use Rattle.host_model.specs.Script.{SpellsAll, AreInOrder, head_with}
use Rattle.host_model.specs.TickScripts.{tick_bytes, ticks_at, AreRising}

pub ticks_in_order : (last : ℕ) (times : List ℕ) → AreRising last times → AreInOrder last (ticks_at times)
ticks_in_order last [] rising = tt
ticks_in_order last (at ∷ times) rising =
    (record { not_before = rising.0; in_range = rising.1; arrival = tt }, ticks_in_order at times rising.2)

pub ticks_spelled : (times : List ℕ) → SpellsAll (ticks_at times) (tick_bytes times)
ticks_spelled [] = refl
ticks_spelled (at ∷ times) = (
  head_with 2 at,
  tick_bytes times,
  refl,
  record { kind = 2; rest = []; brings = (refl, refl); whole = sym (append-nil (head_with 2 at)) },
  ticks_spelled times,
)

pub ticks_count : (times : List ℕ) → length (ticks_at times) ≡ length times
ticks_count [] = refl
ticks_count (at ∷ times) = omega (arith, ticks_count times)
