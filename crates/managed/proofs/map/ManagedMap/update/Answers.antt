use Rattle.std.proofs.Common.{sym, subst}
use Rattle.std.specs.List.Sorted.{IsStrictlySortedBy}
use Rattle.managed.proofs.UpdateLemmas.{keys_of-updated, updated_computed}
use Rattle.managed.proofs.map.ManagedMap.update.Goals as goal

pub returns-in-Borrowed-clause-value : goal.returns-in-Borrowed-clause-value
returns-in-Borrowed-clause-value g c = rw c.in-Borrowed.is (λ h computes. updated_computed g.F.FnMut h _ computes _ _ c.each_in_places.ensures.updated)

pub returns-in-Borrowed-clause-keys : goal.returns-in-Borrowed-clause-keys
returns-in-Borrowed-clause-keys g c = rw c.in-Borrowed.is (keys_of-updated g.F.FnMut _ _ _ c.each_in_places.ensures.updated)

pub returns-in-Borrowed-clause-sorted : goal.returns-in-Borrowed-clause-sorted
returns-in-Borrowed-clause-sorted g c =
    let sorted = rw c.in-Borrowed.is at c.requires.sorted in
    (c.each_in_places.ensures.packed sorted.0, subst (IsStrictlySortedBy g.K.Ord.cmp) (sym (keys_of-updated g.F.FnMut _ _ _ c.each_in_places.ensures.updated)) sorted.1)

pub returns-in-Owned-clause-value : goal.returns-in-Owned-clause-value
returns-in-Owned-clause-value g c = rw c.in-Owned.is (λ h computes. updated_computed g.F.FnMut h _ computes _ _ c.each_in_tree.ensures)

pub returns-in-Owned-clause-keys : goal.returns-in-Owned-clause-keys
returns-in-Owned-clause-keys g c = rw c.in-Owned.is (keys_of-updated g.F.FnMut _ _ _ c.each_in_tree.ensures)
