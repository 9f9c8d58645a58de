use Rattle.std.specs.Map.Iter.{deref_pair_mut}
use Rattle.managed.proofs.RangeLemmas.{walked}
use Rattle.managed.proofs.map.iter_mut.IterMutIterator.next.Goals as goal

pub returns-in-Some-clause-steps : goal.returns-in-Some-clause-steps
returns-in-Some-clause-steps g c = rw c.in-Borrowed.is (walked deref_pair_mut _ _ _ _ c.lend_pair.ensures c.in-Some.ensures.steps)
