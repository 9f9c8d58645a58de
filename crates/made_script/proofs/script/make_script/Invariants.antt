use Rattle.made_script.specs.Made.{IsMadeScript}
use Rattle.made_script.proofs.script.make_script.Given as goal

abbrev pub invariant-loop-place : goal.invariant-loop-place
invariant-loop-place l = IsMadeScript l.words l.place l.bytes.items
