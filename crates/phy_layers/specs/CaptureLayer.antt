-- What a layer that captures frames leaves: its sink, and what its device was handed.
use Rattle.std.specs.Prelude.{◌≡◌, ℕ, ◌+◌, ◌-◌, ◌^◌, Bool, true, false, List, min, Option, Ok, Err, ℤ}
use Rattle.phy_layers.specs.declared.byte_sink.SinkError.{SinkError}
use Rattle.phy_layers.specs.declared.capabilities.Medium.{Medium}
use Rattle.phy_layers.specs.declared.capabilities.Medium.TheVariants as medium
use Rattle.phy_layers.specs.declared.capabilities.PacketMeta.{PacketMeta}
use Rattle.phy_layers.specs.declared.capabilities.TracerDirection.{TracerDirection}
use Rattle.phy_layers.specs.declared.capabilities.TracerDirection.TheVariants.{RX, TX}
use Rattle.phy_layers.specs.declared.capture_mode.PcapMode.{PcapMode}
use Rattle.phy_layers.specs.declared.capture_mode.PcapMode.TheVariants.{Both, RxOnly, TxOnly}
use Rattle.phy_layers.specs.declared.pcap.link_type.PcapLinkType.{PcapLinkType}
use Rattle.phy_layers.specs.declared.pcap.link_type.PcapLinkType.TheVariants as link
use Rattle.phy_layers.specs.PcapBytes.{packet_record, epoch_micros}
use Rattle.phy_layers.specs.Sink.{Took}

-- the link type of frames that begin so
abbrev pub medium_link_type : Medium → PcapLinkType
medium_link_type medium.Ethernet = link.Ethernet
medium_link_type medium.Ip = link.Ip

-- whether frames that go this way are captured
abbrev pub is_captured : PcapMode → TracerDirection → Bool
is_captured Both direction = true
is_captured RxOnly RX = true
is_captured RxOnly TX = false
is_captured TxOnly RX = false
is_captured TxOnly TX = true

-- the faults of the device and of the sink
abbrev pub faults_of : ℕ → ℕ → ℕ
faults_of device sink = min (device + sink) (2 ^ 64 - 1)

-- the sink took the record of a frame, or is as it was where such frames are not captured
pub record Captured {S : Type 0} (bytes : S → Option (List ℕ)) (faults : S → ℕ) (grows : Bool)
    (mode : PcapMode)
    (direction : TracerDirection) (now : ℤ) (frame : List ℕ) (sink sink' : S) : Type 0 where
  pub written : is_captured mode direction ≡ true
      → Took bytes faults grows (Ok tt) (packet_record (epoch_micros now) frame) sink sink'
  pub same : is_captured mode direction ≡ false → sink' ≡ sink

-- the inner device gave a frame, which was then captured
pub record CaptureGave {D S : Type 0} (gave : D → D → ℤ → List ℕ → PacketMeta → Type 0)
    (bytes : S → Option (List ℕ)) (faults : S → ℕ)
    (grows : Bool) (lower lower' : D) (sink sink' : S) (mode mode' : PcapMode) (now : ℤ) (frame : List ℕ)
    (meta : PacketMeta) : Type 0 where
  pub came : gave lower lower' now frame meta
  pub captured : Captured bytes faults grows mode RX now frame sink sink'
  pub setting : mode' ≡ mode

-- a frame was captured, and then the inner device sent it
pub record CaptureWent {D S : Type 0} (went : D → D → ℤ → List ℕ → PacketMeta → Type 0)
    (bytes : S → Option (List ℕ)) (faults : S → ℕ)
    (grows : Bool) (lower lower' : D) (sink sink' : S) (mode mode' : PcapMode) (now : ℤ) (frame : List ℕ)
    (meta : PacketMeta) : Type 0 where
  pub captured : Captured bytes faults grows mode TX now frame sink sink'
  pub sent : went lower lower' now frame meta
  pub setting : mode' ≡ mode

-- the inner device had no frame, dropped what it had or refused, and nothing was captured
pub record CaptureStill {D S : Type 0} (still : D → D → Type 0) (lower lower' : D) (sink sink' : S)
    (mode mode' : PcapMode) : Type 0 where
  pub below : still lower lower'
  pub same : sink' ≡ sink
  pub setting : mode' ≡ mode

-- the inner device gave a frame, and the sink refused its record
pub record CaptureRefusedIn {D S : Type 0} (gave : D → D → ℤ → List ℕ → PacketMeta → Type 0)
    (bytes : S → Option (List ℕ)) (faults : S → ℕ)
    (grows : Bool) (lower lower' : D) (sink sink' : S) (mode mode' : PcapMode) (now : ℤ) : Type 0 where
  pub frame : List ℕ
  pub meta : PacketMeta
  pub error : SinkError
  pub came : gave lower lower' now frame meta
  pub refused : Took bytes faults grows (Err error) (packet_record (epoch_micros now) frame) sink sink'
  pub setting : mode' ≡ mode

-- a frame was captured, and then the inner device dropped or refused it
pub record CaptureStopped {D S : Type 0} (stopped : D → D → ℤ → List ℕ → Type 0) (bytes : S → Option (List ℕ))
    (faults : S → ℕ)
    (grows : Bool) (lower lower' : D) (sink sink' : S) (mode mode' : PcapMode) (now : ℤ)
    (frame : List ℕ) : Type 0 where
  pub captured : Captured bytes faults grows mode TX now frame sink sink'
  pub below : stopped lower lower' now frame
  pub setting : mode' ≡ mode

-- the sink refused the record of a frame, and the inner device is as it was
pub record CaptureRefusedOut {D S : Type 0} (bytes : S → Option (List ℕ)) (faults : S → ℕ)
    (grows : Bool) (lower lower' : D) (sink sink' : S) (mode mode' : PcapMode) (now : ℤ)
    (frame : List ℕ) : Type 0 where
  pub error : SinkError
  pub refused : Took bytes faults grows (Err error) (packet_record (epoch_micros now) frame) sink sink'
  pub kept : lower' ≡ lower
  pub setting : mode' ≡ mode
