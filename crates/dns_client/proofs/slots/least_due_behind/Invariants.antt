-- The least due from here on.
use Rattle.std.proofs.Common.{◌≡◌, ◌≤◌, length, drop}
use Rattle.dns_client.specs.Slots.{least_due_behind}
use Rattle.dns_client.proofs.slots.least_due_behind.Given as goal

abbrev pub invariant-loop-at : goal.invariant-loop-at
invariant-loop-at l = record {
  least : l.least ≡ least_due_behind l.last (drop l.at l.slots);
  within : l.at ≤ length l.slots;
}

abbrev pub decreases-loop-at : goal.decreases-loop-at
decreases-loop-at l = l.at
