use Rattle.std.proofs.Common.{◌≤◌, length, subst}
use Rattle.managed.proofs.PackedLemmas.{filled_le}
use Rattle.net_host.specs.Neighbors.{Table, pair_count}
use Rattle.net_host.proofs.neighbors.Neighbors.place_count.Goals as goal

pub returns-clause-within : goal.returns-clause-within
returns-clause-within c =
    subst (λ (t : Table). pair_count t ≤ length c.in-Borrowed.places.now) c.self.view_is
    (rw c.in-Borrowed.is (filled_le c.in-Borrowed.places.now))
