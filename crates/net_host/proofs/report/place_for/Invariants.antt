-- The lines so far have no greater number.
use Rattle.std.proofs.Common.{◌≡◌, ◌+◌, drop}
use Rattle.net_host.specs.Lines.{place_for}
use Rattle.net_host.proofs.report.place_for.Given as goal

abbrev pub invariant-loop-at : goal.invariant-loop-at
invariant-loop-at l = l.at + place_for l.query (drop l.at l.lines) ≡ place_for l.query l.lines
