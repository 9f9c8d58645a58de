-- What a layer that disturbs a link leaves: its own part, and what its device was handed.
use Rattle.std.specs.Prelude.{◌≡◌, ◌⊎◌, ℕ, ◌+◌, ◌-◌, ◌^◌, List, length, min, Some, None, ℤ, pos}
use Rattle.phy_layers.specs.declared.capabilities.DeviceCapabilities.{DeviceCapabilities}
use Rattle.phy_layers.specs.declared.capabilities.PacketMeta.{PacketMeta}
use Rattle.phy_layers.specs.declared.capabilities.TracerDirection.{TracerDirection}
use Rattle.phy_layers.specs.declared.capabilities.TracerDirection.TheVariants.{RX, TX}
use Rattle.phy_layers.specs.declared.fault_rule.Fate.{Fate}
use Rattle.phy_layers.specs.declared.fault_rule.Fate.TheVariants.{Dropped, Whole, Flipped}
use Rattle.phy_layers.specs.declared.fault_rule.FaultOutcome.{FaultOutcome}
use Rattle.phy_layers.specs.declared.fault_layer.FaultLayer.{FaultLayer}
use Rattle.phy_layers.specs.FaultRule.{fault_outcome, frame_after}
use Rattle.phy_layers.specs.Calls.{counted}

-- the layer before any frame: nothing is disturbed, and nothing was dropped
abbrev pub fresh_layer : ℕ → FaultLayer
fresh_layer seed = record {
  settings = record {
    corrupt_chance = 0;
    drop_chance = 0;
    max_packet_size = 0;
    max_tx_rate = 0;
    max_rx_rate = 0;
    bucket_interval = 0;
  };
  state = record { word = seed; refilled_at = pos 0; tx_bucket = 0; rx_bucket = 0 };
  dropped = 0;
}

-- what the rule says of a frame of so many bytes
abbrev pub outcome_at : FaultLayer → TracerDirection → ℤ → ℕ → FaultOutcome
outcome_at layer direction now len = fault_outcome layer.settings layer.state direction now len

-- the count of dropped frames after a frame
abbrev pub dropped_after : ℕ → Fate → ℕ
dropped_after count Dropped = counted count
dropped_after count Whole = count
dropped_after count (Flipped at bit) = count

-- the layer after a frame met the rule
abbrev pub layer_after : FaultLayer → FaultOutcome → FaultLayer
layer_after layer outcome = record {
  settings = layer.settings;
  state = outcome.state;
  dropped = dropped_after layer.dropped outcome.fate;
}

-- frames of at most 1536 bytes are sent; all else is the inner device's
abbrev pub limited : DeviceCapabilities → DeviceCapabilities
limited device = record device { max_transmission_unit = min device.max_transmission_unit 1536 }

-- the frames that the inner device dropped, and those of the layer
abbrev pub drops_of : ℕ → FaultLayer → ℕ
drops_of inner layer = min (inner + layer.dropped) (2 ^ 64 - 1)

-- a frame that the inner device gave met the rule, and passed as the given one
pub record FaultGave {D : Type 0} (gave : D → D → ℤ → List ℕ → PacketMeta → Type 0) (inner inner' : D)
    (layer layer' : FaultLayer) (now : ℤ) (frame : List ℕ) (meta : PacketMeta) : Type 0 where
  pub given : List ℕ
  pub came : gave inner inner' now given meta
  pub passed : frame_after (outcome_at layer RX now (length given)).fate given ≡ Some frame
  pub left : layer' ≡ layer_after layer (outcome_at layer RX now (length given))

-- a frame met the rule, and the inner device sent what passed
pub record FaultWent {D : Type 0} (went : D → D → ℤ → List ℕ → PacketMeta → Type 0) (inner inner' : D)
    (layer layer' : FaultLayer) (now : ℤ) (frame : List ℕ) (meta : PacketMeta) : Type 0 where
  pub handed : List ℕ
  pub passed : frame_after (outcome_at layer TX now (length frame)).fate frame ≡ Some handed
  pub sent : went inner inner' now handed meta
  pub left : layer' ≡ layer_after layer (outcome_at layer TX now (length frame))

-- the rule dropped a frame that the inner device gave
pub record FaultDropped {D : Type 0} (gave : D → D → ℤ → List ℕ → PacketMeta → Type 0) (inner inner' : D)
    (layer layer' : FaultLayer) (now : ℤ) : Type 0 where
  pub given : List ℕ
  pub meta : PacketMeta
  pub came : gave inner inner' now given meta
  pub dropped : frame_after (outcome_at layer RX now (length given)).fate given ≡ None
  pub left : layer' ≡ layer_after layer (outcome_at layer RX now (length given))

-- the inner device dropped what it had, or the rule what came
abbrev pub FaultLostIn : {D : Type 0} → (D → D → ℤ → List ℕ → PacketMeta → Type 0) → (D → D → ℤ → Type 0) → D
    → D
    → FaultLayer → FaultLayer → ℤ → Type 0
FaultLostIn gave lost_in inner inner' layer layer' now =
    (lost_in inner inner' now × (layer' ≡ layer)) ⊎ FaultDropped gave inner inner' layer layer' now

-- the inner device dropped what passed
pub record FaultPassedLost {D : Type 0} (lost_out : D → D → ℤ → List ℕ → Type 0) (inner inner' : D)
    (layer layer' : FaultLayer) (now : ℤ) (frame : List ℕ) : Type 0 where
  pub handed : List ℕ
  pub passed : frame_after (outcome_at layer TX now (length frame)).fate frame ≡ Some handed
  pub lost : lost_out inner inner' now handed
  pub left : layer' ≡ layer_after layer (outcome_at layer TX now (length frame))

-- the rule dropped a frame that was to be sent, and the inner device is as it was
pub record FaultKept {D : Type 0} (inner inner' : D) (layer layer' : FaultLayer) (now : ℤ)
    (frame : List ℕ) : Type 0 where
  pub dropped : frame_after (outcome_at layer TX now (length frame)).fate frame ≡ None
  pub same : inner' ≡ inner
  pub left : layer' ≡ layer_after layer (outcome_at layer TX now (length frame))

abbrev pub FaultLostOut : {D : Type 0} → (D → D → ℤ → List ℕ → Type 0) → D → D → FaultLayer → FaultLayer → ℤ
    → List ℕ → Type 0
FaultLostOut lost_out inner inner' layer layer' now frame =
    FaultPassedLost lost_out inner inner' layer layer' now frame
    ⊎ FaultKept inner inner' layer layer' now frame

-- the inner device refused to receive, and the layer is as it was
pub record FaultRefusedIn {D : Type 0} (refused_in : D → D → ℤ → Type 0) (inner inner' : D)
    (layer layer' : FaultLayer) (now : ℤ) : Type 0 where
  pub refused : refused_in inner inner' now
  pub left : layer' ≡ layer

-- a frame met the rule, and the inner device refused what passed
pub record FaultRefusedOut {D : Type 0} (refused_out : D → D → ℤ → List ℕ → Type 0) (inner inner' : D)
    (layer layer' : FaultLayer) (now : ℤ) (frame : List ℕ) : Type 0 where
  pub handed : List ℕ
  pub passed : frame_after (outcome_at layer TX now (length frame)).fate frame ≡ Some handed
  pub refused : refused_out inner inner' now handed
  pub left : layer' ≡ layer_after layer (outcome_at layer TX now (length frame))

-- the inner device had no frame, and the layer is as it was
pub record FaultIdle {D : Type 0} (idle : D → D → Type 0) (inner inner' : D)
    (layer layer' : FaultLayer) : Type 0 where
  pub none : idle inner inner'
  pub left : layer' ≡ layer
