use Rattle.std.proofs.Common.{◌≡◌, ◌+◌, ◌-◌}
use Rattle.lease_server.specs.Values.{values_of, first_number, are_usable}
use Rattle.lease_server.proofs.values.ServerValues.has_range.Given as goal

abbrev pub invariant-loop-place : goal.invariant-loop-place
invariant-loop-place l =
    are_usable (values_of l.self) (first_number (values_of l.self)) l.self.count
    ≡ are_usable (values_of l.self) (l.first + l.place) (l.self.count - l.place)
