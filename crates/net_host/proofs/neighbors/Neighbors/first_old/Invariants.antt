-- No station that was passed is old.
use Rattle.std.proofs.Common.{◌≡◌}
use Rattle.net_host.specs.Neighbors.{first_old}
use Rattle.net_host.proofs.neighbors.Neighbors.first_old.Given as goal

abbrev pub invariant-loop-pair : goal.invariant-loop-pair
invariant-loop-pair l = first_old l.at l.self.stations ≡ first_old l.at l.pair-iterator
