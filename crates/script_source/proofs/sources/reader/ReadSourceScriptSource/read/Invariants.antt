-- No fault has been counted.
use Rattle.std.proofs.Common.{◌≡◌}
use Rattle.script_source.proofs.sources.reader.ReadSourceScriptSource.read.Given as goal

abbrev pub invariant-loop : goal.invariant-loop
invariant-loop g l = l.self.faults ≡ l.fn.self.faults
