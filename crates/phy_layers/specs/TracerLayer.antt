-- What a layer that shows frames leaves: its closure, and what its device was handed.
use Rattle.std.specs.Prelude.{◌≡◌, ℕ, List, ℤ}
use Rattle.std.specs.Borrow.{Bor}
use Rattle.phy_layers.specs.declared.capabilities.Medium.{Medium}
use Rattle.phy_layers.specs.declared.capabilities.PacketMeta.{PacketMeta}
use Rattle.phy_layers.specs.declared.capabilities.TracerDirection.{TracerDirection}
use Rattle.phy_layers.specs.declared.capabilities.TracerDirection.TheVariants.{RX, TX}
use Rattle.phy_layers.specs.declared.tracer_packet.TracerPacket.{TracerPacket}

-- the closure was called once, at this moment, on these bytes; `step` is a call of it
pub record Shown {F : Type 0} (step : F → ℤ → Bor TracerPacket → Unit {0} → F → Type 0) (writer writer' : F)
    (now : ℤ)
    (frame : List ℕ) (medium : Medium) (direction : TracerDirection) : Type 0 where
  pub packet : Bor TracerPacket
  pub bytes : packet.now.buffer.now ≡ frame
  pub on : packet.now.medium ≡ medium
  pub way : packet.now.direction ≡ direction
  pub called : step writer now packet tt writer'

-- the inner device gave a frame, which was then shown
pub record TracerGave {D F : Type 0} (gave : D → D → ℤ → List ℕ → PacketMeta → Type 0)
    (step : F → ℤ → Bor TracerPacket → Unit {0} → F → Type 0) (medium : Medium) (inner inner' : D)
    (writer writer' : F) (now : ℤ)
    (frame : List ℕ) (meta : PacketMeta) : Type 0 where
  pub came : gave inner inner' now frame meta
  pub shown : Shown step writer writer' now frame medium RX

-- a frame was shown, and then the inner device sent it
pub record TracerWent {D F : Type 0} (went : D → D → ℤ → List ℕ → PacketMeta → Type 0)
    (step : F → ℤ → Bor TracerPacket → Unit {0} → F → Type 0) (medium : Medium) (inner inner' : D)
    (writer writer' : F) (now : ℤ)
    (frame : List ℕ) (meta : PacketMeta) : Type 0 where
  pub shown : Shown step writer writer' now frame medium TX
  pub sent : went inner inner' now frame meta

-- the inner device had no frame, dropped what it had or refused, and nothing was shown
pub record TracerStill {D F : Type 0} (still : D → D → Type 0) (inner inner' : D)
    (writer writer' : F) : Type 0 where
  pub below : still inner inner'
  pub same : writer' ≡ writer

-- a frame was shown, and then the inner device dropped or refused it
pub record TracerStopped {D F : Type 0} (stopped : D → D → ℤ → List ℕ → Type 0)
    (step : F → ℤ → Bor TracerPacket → Unit {0} → F → Type 0) (medium : Medium) (inner inner' : D)
    (writer writer' : F) (now : ℤ)
    (frame : List ℕ) : Type 0 where
  pub shown : Shown step writer writer' now frame medium TX
  pub below : stopped inner inner' now frame
