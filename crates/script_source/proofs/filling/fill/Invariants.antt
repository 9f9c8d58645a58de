-- The source lost what stands in front of the place.
use Rattle.std.proofs.Common.{◌≡◌, ℕ, ◌-◌, ◌<◌, ◌≤◌, length, take, slice_index}
use Rattle.std.specs.Io.KnownBytes.{Consumes}
use Rattle.script_source.proofs.filling.fill.Given as goal

abbrev pub invariant-loop-at : goal.invariant-loop-at
invariant-loop-at g l =
    let left = g.S.ScriptSource.left in
    let faults = g.S.ScriptSource.faults in
    record {
      bytes : (i : ℕ) → slice_index l.into i < 256;
      within : l.at ≤ length l.into;
      took : Consumes (left l.fn.source) (left l.source) (take l.at l.into);
      quiet : faults l.source ≡ faults l.fn.source;
    }

abbrev pub decreases-loop-at : goal.decreases-loop-at
decreases-loop-at g l = length l.initial.into - l.at
