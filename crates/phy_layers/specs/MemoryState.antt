-- What a contract sees of a device in memory.
use Rattle.std.specs.Prelude.{◌≡◌, ℕ, Bool, true, false, List, [], ◌∷◌, ◌++◌}
use Rattle.phy_layers.specs.declared.capabilities.Medium.{Medium}
use Rattle.phy_layers.specs.declared.capabilities.DeviceCapabilities.{DeviceCapabilities}
use Rattle.phy_layers.specs.declared.capabilities.PacketMeta.{PacketMeta}
use Rattle.phy_layers.specs.Calls.{Calls, fails_next, after_call}

-- the frames that wait and that were sent, and its calls
pub record MemoryState : Type 0 where
  pub medium : Medium
  pub mtu : ℕ
  pub waiting : List (List ℕ)
  pub sent : List (List ℕ)
  pub calls : Calls

-- frames of the longest length are sent and received
abbrev pub memory_capabilities : MemoryState → DeviceCapabilities
memory_capabilities device =
    record { medium = device.medium; max_transmission_unit = device.mtu; max_receive = device.mtu }

-- the device after a call, with these frames
abbrev pub left_with : Bool → MemoryState → List (List ℕ) → List (List ℕ) → MemoryState
left_with failed device waiting sent =
    record device { waiting = waiting; sent = sent; calls = after_call failed device.calls }

-- the call does not fail; the frame was the first one that waited, and it alone is gone; its number is 0
pub record MemoryGave (before after : MemoryState) (frame : List ℕ) (meta : PacketMeta) : Type 0 where
  pub works : fails_next before.calls ≡ false
  pub first : before.waiting ≡ frame ∷ after.waiting
  pub left : after ≡ left_with false before after.waiting before.sent
  pub number : meta.id ≡ 0

-- the call does not fail, and no frame waits
pub record MemoryIdle (before after : MemoryState) : Type 0 where
  pub works : fails_next before.calls ≡ false
  pub none : before.waiting ≡ []
  pub left : after ≡ left_with false before before.waiting before.sent

-- the call does not fail, and the frame is the last one that was sent
pub record MemoryWent (before after : MemoryState) (frame : List ℕ) : Type 0 where
  pub works : fails_next before.calls ≡ false
  pub left : after ≡ left_with false before before.waiting (before.sent ++ frame ∷ [])

-- a call that fails counts its fault, and takes and sends nothing
pub record MemoryFailed (before after : MemoryState) : Type 0 where
  pub fails : fails_next before.calls ≡ true
  pub left : after ≡ left_with true before before.waiting before.sent

-- the call does not fail, but for want of memory nothing is sent
pub record MemoryFull (before after : MemoryState) : Type 0 where
  pub works : fails_next before.calls ≡ false
  pub left : after ≡ left_with false before before.waiting before.sent
