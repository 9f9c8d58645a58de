use Rattle.managed.proofs.PackedLemmas.{filled_vacant, sorted_vacant}
use Rattle.managed.proofs.map.ManagedMap.clear.Goals as goal

pub returns-in-Borrowed-clause-empty : goal.returns-in-Borrowed-clause-empty
returns-in-Borrowed-clause-empty g c = filled_vacant c.clear.new.places c.clear.ensures

pub returns-in-Borrowed-clause-sorted : goal.returns-in-Borrowed-clause-sorted
returns-in-Borrowed-clause-sorted g c = sorted_vacant g.K.Ord.cmp c.clear.new.places c.clear.ensures
