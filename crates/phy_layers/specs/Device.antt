-- What a call of a device leaves behind, whether or not it refused.
use Rattle.std.specs.Prelude.{◌≡◌, ℕ, ◌<◌, ◌≤◌, ◌⊎◌, List, [], take, Option, Result, ℤ, IfOk, OnOk, OnErr, IfSome, IsNone, IsErrOf}
use Rattle.wire_base.specs.Causes.{IsRisen}
use Rattle.phy_layers.specs.declared.capabilities.DeviceCapabilities.{DeviceCapabilities}
use Rattle.phy_layers.specs.declared.capabilities.DeviceError.{DeviceError}
use Rattle.phy_layers.specs.declared.capabilities.DeviceError.TheVariants.{Fault}
use Rattle.phy_layers.specs.declared.capabilities.PacketMeta.{PacketMeta}

-- no frame waits, as far as the device tells
abbrev pub NoneWaits : Option (List (List ℕ)) → Type 0
NoneWaits waiting = IfSome waiting (λ frames. frames ≡ [])

-- A frame was asked for. `waiting` and `sent` are the frames that wait and those that were sent, where the
-- device tells them, `faults` and `drops` its counts, `takes` its capabilities. The others relate the device
-- before and after the call: it gave a frame, had none, dropped one, or refused.
pub record Received {D : Type 0} (waiting sent : D → Option (List (List ℕ))) (faults drops : D → ℕ)
    (takes : D → DeviceCapabilities)
    (gave : D → D → ℤ → List ℕ → PacketMeta → Type 0) (idle : D → D → Type 0)
    (lost_in refused_in : D → D → ℤ → Type 0)
    (result : Result (Option (ℕ × PacketMeta)) DeviceError) (now : ℤ) (into : List ℕ)
    (old new : D) : Type 0 where
  pub frame : IfOk result (λ given. IfSome given (λ part.
      (part.0 ≤ (takes old).max_receive) × gave old new now (take part.0 into) part.1))
  pub none : IfOk result (λ given. IsNone given → (NoneWaits (waiting old) × idle old new)
      ⊎ IsRisen (drops old) (drops new))
  pub lost : IfOk result (λ given. IsNone given → drops old < drops new → lost_in old new now)
  pub refused : OnErr result (refused_in old new now)
  pub fault : IsErrOf result Fault → IsRisen (faults old) (faults new)
  pub quiet : OnOk result (faults new ≡ faults old)
  pub later : (faults old ≤ faults new) × (drops old ≤ drops new)
  pub others : (sent new ≡ sent old) × (takes new ≡ takes old)

-- A frame was handed over to be sent. The relations are of the device before and after the call: it sent the
-- frame, dropped it, or refused it.
pub record Transmitted {D : Type 0} (waiting : D → Option (List (List ℕ))) (faults drops : D → ℕ)
    (takes : D → DeviceCapabilities)
    (went : D → D → ℤ → List ℕ → PacketMeta → Type 0) (lost_out refused_out : D → D → ℤ → List ℕ → Type 0)
    (result : Result (Unit {0}) DeviceError) (now : ℤ) (meta : PacketMeta) (frame : List ℕ)
    (old new : D) : Type 0 where
  pub sent : OnOk result (went old new now frame meta ⊎ IsRisen (drops old) (drops new))
  pub lost : OnOk result (drops old < drops new → lost_out old new now frame)
  pub refused : OnErr result (refused_out old new now frame)
  pub fault : IsErrOf result Fault → IsRisen (faults old) (faults new)
  pub quiet : OnOk result (faults new ≡ faults old)
  pub later : (faults old ≤ faults new) × (drops old ≤ drops new)
  pub others : (waiting new ≡ waiting old) × (takes new ≡ takes old)
