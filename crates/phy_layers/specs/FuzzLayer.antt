-- What a layer that fuzzes frames leaves: its fuzzers, and what its device was handed.
use Rattle.std.specs.Prelude.{◌≡◌, ℕ, List, length, ℤ}
use Rattle.phy_layers.specs.declared.capabilities.PacketMeta.{PacketMeta}

-- a fuzzer made of bytes as many bytes
pub record Fuzzed {F : Type 0} (fuzzed : F → F → List ℕ → List ℕ → Type 0) (fuzzer fuzzer' : F)
    (old new : List ℕ) : Type 0 where
  pub made : fuzzed fuzzer fuzzer' old new
  pub len : length new ≡ length old

-- the inner device gave a frame, and then the one fuzzer made the given one of it; the other stays
pub record FuzzGave {D FTx FRx : Type 0} (gave : D → D → ℤ → List ℕ → PacketMeta → Type 0)
    (fuzzed : FRx → FRx → List ℕ → List ℕ → Type 0)
    (inner inner' : D) (tx tx' : FTx) (rx rx' : FRx) (now : ℤ) (frame : List ℕ)
    (meta : PacketMeta) : Type 0 where
  pub given : List ℕ
  pub came : gave inner inner' now given meta
  pub made : Fuzzed fuzzed rx rx' given frame
  pub other : tx' ≡ tx

-- the one fuzzer made a frame of the given one, and then the inner device sent that; the other stays
pub record FuzzWent {D FTx FRx : Type 0} (went : D → D → ℤ → List ℕ → PacketMeta → Type 0)
    (fuzzed : FTx → FTx → List ℕ → List ℕ → Type 0)
    (inner inner' : D) (tx tx' : FTx) (rx rx' : FRx) (now : ℤ) (frame : List ℕ)
    (meta : PacketMeta) : Type 0 where
  pub handed : List ℕ
  pub made : Fuzzed fuzzed tx tx' frame handed
  pub sent : went inner inner' now handed meta
  pub other : rx' ≡ rx

-- the inner device had no frame, dropped what it had or refused; no fuzzer ran
pub record FuzzStill {D FTx FRx : Type 0} (still : D → D → Type 0) (inner inner' : D) (tx tx' : FTx)
    (rx rx' : FRx) : Type 0 where
  pub below : still inner inner'
  pub tx_same : tx' ≡ tx
  pub rx_same : rx' ≡ rx

-- the inner device dropped or refused what the one fuzzer made
pub record FuzzStopped {D FTx FRx : Type 0} (stopped : D → D → ℤ → List ℕ → Type 0)
    (fuzzed : FTx → FTx → List ℕ → List ℕ → Type 0)
    (inner inner' : D) (tx tx' : FTx) (rx rx' : FRx) (now : ℤ) (frame : List ℕ) : Type 0 where
  pub handed : List ℕ
  pub made : Fuzzed fuzzed tx tx' frame handed
  pub below : stopped inner inner' now handed
  pub other : rx' ≡ rx
