-- What can become of events over a bad link, whatever its values are.
use Rattle.std.specs.Prelude.{◌≡◌, ◌⊎◌, ⊤, ℕ, List, [], ◌∷◌}
use Rattle.host_model.specs.Script.{Arrival, Tick, Reset, Frame, Query, Event}
use Rattle.phy_layers.specs.FaultLaw.{DifferInOneBit}

-- a frame is itself, has one other bit, or leaves a tick; all else is itself
abbrev pub MayBring : Arrival → Arrival → Type 0
MayBring Tick met = met ≡ Tick
MayBring Reset met = met ≡ Reset
MayBring (Frame frame) met =
    (met ≡ Tick)
    ⊎ ((passed : List ℕ) × (met ≡ Frame passed) × ((passed ≡ frame) ⊎ DifferInOneBit frame passed))
MayBring (Query type_ name) met = met ≡ Query type_ name

-- the time stays
pub record IsMet (event met : Event) : Type 0 where
  pub time : met.at ≡ event.at
  pub arrival : MayBring event.arrival met.arrival

-- one by one, no event more or less
abbrev pub AreMet : List Event → List Event → Type 0
AreMet [] [] = ⊤
AreMet [] (first ∷ rest) = ⊥
AreMet (event ∷ events) [] = ⊥
AreMet (event ∷ events) (first ∷ rest) = IsMet event first × AreMet events rest
