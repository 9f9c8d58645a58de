-- Scripts of ticks alone.
use Rattle.std.specs.Prelude.{◌≡◌, ℕ, ◌<◌, ◌≤◌, List, [], ◌∷◌, ◌++◌, length, map, ⊤}
use Rattle.std.specs.Int.{to_be_bytes, w64}
use Rattle.std.specs.List.{flat_map}
use Rattle.host_model.specs.Script.{Tick, Event, time_limit}
use Rattle.host_model.specs.Classes.{IsScript}

-- the byte 2 and the time of each
abbrev pub tick_bytes : List ℕ → List ℕ
tick_bytes times = flat_map (λ at. 2 ∷ [] ++ to_be_bytes w64 at) times

abbrev pub ticks_at : List ℕ → List Event
ticks_at times = map (λ at. record { at = at; arrival = Tick }) times

-- the times are in range and never fall, and the first of them is not before `last`
abbrev pub AreRising : ℕ → List ℕ → Type 0
AreRising last [] = ⊤
AreRising last (at ∷ times) = (last ≤ at) × (at < time_limit) × AreRising at times

-- Such bytes are a script of these ticks and of no other events, at most as many as there may be.
abbrev pub TicksAreScripts : Type 0
TicksAreScripts = (max : ℕ) (times : List ℕ) → AreRising 0 times → length times ≤ max
    → IsScript max (tick_bytes times) (ticks_at times)
    × ((events : List Event) → IsScript max (tick_bytes times) events → events ≡ ticks_at times)
