-- What calls that put bytes into a sink leave behind, whether or not the sink refused one of them.
use Rattle.std.specs.Prelude.{◌≡◌, ℕ, ◌≤◌, Bool, List, Option, Result, OnOk, IsErrOf, IsTrue}
use Rattle.std.specs.Io.KnownBytes.{Appends, Keeps}
use Rattle.wire_base.specs.Causes.{IsRisen, AppendsFront}
use Rattle.phy_layers.specs.declared.byte_sink.SinkError.{SinkError}
use Rattle.phy_layers.specs.declared.byte_sink.SinkError.TheVariants.{Fault, NoMemory}

-- Bytes were handed to a sink by one call or by several: it took all of them, or it refused and took a front
-- of them. `bytes` are the bytes that a sink has taken, where it tells them, and `faults` is its count of
-- faults.
pub record Took {S : Type 0} (bytes : S → Option (List ℕ)) (faults : S → ℕ) (grows : Bool)
    (result : Result (Unit {0}) SinkError) (handed : List ℕ) (old new : S) : Type 0 where
  pub whole : OnOk result (Appends (bytes old) (bytes new) handed)
  pub front : AppendsFront (bytes old) (bytes new) handed
  pub later : faults old ≤ faults new
  pub quiet : OnOk result (faults new ≡ faults old)
  pub fault : IsErrOf result Fault → IsRisen (faults old) (faults new)
  pub memory : IsErrOf result NoMemory → (faults new ≡ faults old) × IsTrue grows

-- one call of a sink: want of memory takes nothing
pub record Wrote {S : Type 0} (bytes : S → Option (List ℕ)) (faults : S → ℕ) (grows : Bool)
    (result : Result (Unit {0}) SinkError) (piece : List ℕ) (old new : S) : Type 0 where
  pub took : Took bytes faults grows result piece old new
  pub none : IsErrOf result NoMemory → Keeps (bytes old) (bytes new)
