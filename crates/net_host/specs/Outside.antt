-- What the outside of a run tells.
use Rattle.std.specs.Prelude.{◌≡◌, ℕ, List, Option}
use Rattle.phy_layers.specs.declared.byte_sink.ByteSink as byte_sink
use Rattle.script_source.specs.declared.source.ScriptSource as script_source

-- what the script and the capture tell: the bytes still to come, the bytes taken, and the counts of faults
pub record Outside : Type 0 where
  pub left : Option (List ℕ)
  pub read_faults : ℕ
  pub captured : Option (List ℕ)
  pub capture_faults : ℕ

abbrev pub outside_of : {S C : Type 0} → script_source.Ghosts S → byte_sink.Ghosts C → S → C → Outside
outside_of source sink script capture = record {
  left = source.left script;
  read_faults = source.faults script;
  captured = sink.bytes capture;
  capture_faults = sink.faults capture;
}

-- no count of faults changed
pub record IsQuiet (before after : Outside) : Type 0 where
  pub source : after.read_faults ≡ before.read_faults
  pub capture : after.capture_faults ≡ before.capture_faults
