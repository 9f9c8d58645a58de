use Rattle.std.proofs.Common.{arith}
use Rattle.managed.proofs.RangeLemmas.{filled_last, last_filled}
use Rattle.managed.proofs.map.range.last_place.Goals as goal

pub returns-in-Some-clause-steps : goal.returns-in-Some-clause-steps
returns-in-Some-clause-steps g c = (filled_last c.args.places.now.now _ _ _ c.requires (omega arith) c.index-all-count.is c.in-Some.is).0

pub returns-in-Some-clause-within : goal.returns-in-Some-clause-within
returns-in-Some-clause-within g c = (filled_last c.args.places.now.now _ _ _ c.requires (omega arith) c.index-all-count.is c.in-Some.is).1

pub returns-in-None-clause-steps : goal.returns-in-None-clause-steps
returns-in-None-clause-steps g c = absurd (last_filled c.args.places.now.now _ _ c.requires (omega arith) c.index-all-count.is c.in-None.is)
