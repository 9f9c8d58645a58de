use Rattle.std.proofs.Common.{arith}
use Rattle.managed.proofs.PackedLemmas.{full_last}
use Rattle.managed.proofs.map.borrowed.is_full.Goals as goal

-- the last place tells
pub returns : goal.returns
returns g c = rw c.is_some.ensures (full_last c.args.places.now _ _ c.requires (omega arith) c.index-places-count.is)
