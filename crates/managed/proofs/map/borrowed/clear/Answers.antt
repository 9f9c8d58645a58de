use Rattle.std.proofs.Common.{arith}
use Rattle.managed.proofs.PackedLemmas.{vacant_from}
use Rattle.managed.proofs.map.borrowed.clear.Goals as goal

pub returns : goal.returns
returns g c = vacant_from c.loop-place.places (λ k lt. c.loop-place.invariant k (omega arith))
