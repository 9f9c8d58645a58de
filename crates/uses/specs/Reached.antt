-- What reached a device in memory below a fuzzer, a fault injector and a tracer.
use Rattle.std.specs.Prelude.{◌≡◌, ℕ, List, [], ◌∷◌, ◌++◌, length, Some, ℤ}
use Rattle.std.specs.Borrow.{Bor}
use Rattle.phy_layers.specs.declared.capabilities.Medium.{Medium}
use Rattle.phy_layers.specs.declared.capabilities.TracerDirection.TheVariants.{TX}
use Rattle.phy_layers.specs.declared.fault_layer.FaultLayer.{FaultLayer}
use Rattle.phy_layers.specs.declared.tracer_packet.TracerPacket.{TracerPacket}
use Rattle.phy_layers.specs.FaultLayer.{outcome_at}
use Rattle.phy_layers.specs.FaultRule.{frame_after}
use Rattle.phy_layers.specs.TracerLayer.{Shown}

-- The closure saw the frame as it was handed in, the fault rule made one of it that passed, the fuzzer
-- another of that, as long, and this one alone joined the frames that were sent.
pub record Reached {F FTx : Type 0} (step : F → ℤ → Bor TracerPacket → Unit {0} → F → Type 0)
    (fuzzed : FTx → FTx → List ℕ → List ℕ → Type 0)
    (layer : FaultLayer) (medium : Medium) (now : ℤ) (frame : List ℕ)
    (writer writer' : F) (fuzzer fuzzer' : FTx) (sent sent' : List (List ℕ)) : Type 0 where
  pub shown : Shown step writer writer' now frame medium TX
  pub passed : List ℕ
  pub rule : frame_after (outcome_at layer TX now (length frame)).fate frame ≡ Some passed
  pub handed : List ℕ
  pub made : fuzzed fuzzer fuzzer' passed handed
  pub len : length handed ≡ length passed
  pub joined : sent' ≡ sent ++ handed ∷ []
