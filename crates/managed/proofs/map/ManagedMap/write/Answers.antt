use Rattle.std.proofs.Common.{ap}
use Rattle.managed.specs.SortedMap.{filled}
use Rattle.managed.proofs.UpdateLemmas.{written_value, written_others, written_keys}
use Rattle.managed.proofs.map.ManagedMap.write.Goals as goal

pub returns-in-Borrowed-clause-value : goal.returns-in-Borrowed-clause-value
returns-in-Borrowed-clause-value g c = let e = c.one_in_places.ensures in rw c.in-Borrowed.is (written_value g.F.FnOnce _ g.met.K.Ord.total _ _ _ _ e.found e.written (λ no. ap filled (e.empty no)))

pub returns-in-Owned-clause-value : goal.returns-in-Owned-clause-value
returns-in-Owned-clause-value g c = let e = c.one_in_tree.ensures in rw c.in-Owned.is (written_value g.F.FnOnce _ g.met.K.Ord.total _ _ _ _ e.found e.written e.empty)

pub returns-in-Owned-clause-others : goal.returns-in-Owned-clause-others
returns-in-Owned-clause-others g c = let e = c.one_in_tree.ensures in rw c.in-Owned.is (written_others g.F.FnOnce _ g.met.K.Ord.total _ _ _ _ e.found e.written e.empty)

pub returns-in-Owned-clause-keys : goal.returns-in-Owned-clause-keys
returns-in-Owned-clause-keys g c = let e = c.one_in_tree.ensures in rw c.in-Owned.is (written_keys g.F.FnOnce _ g.met.K.Ord.total _ _ _ _ e.found e.written e.empty)

pub returns-in-Borrowed-clause-others : goal.returns-in-Borrowed-clause-others
returns-in-Borrowed-clause-others g c = let e = c.one_in_places.ensures in rw c.in-Borrowed.is (written_others g.F.FnOnce _ g.met.K.Ord.total _ _ _ _ e.found e.written (λ no. ap filled (e.empty no)))

pub returns-in-Borrowed-clause-keys : goal.returns-in-Borrowed-clause-keys
returns-in-Borrowed-clause-keys g c = let e = c.one_in_places.ensures in rw c.in-Borrowed.is (written_keys g.F.FnOnce _ g.met.K.Ord.total _ _ _ _ e.found e.written (λ no. ap filled (e.empty no)))
