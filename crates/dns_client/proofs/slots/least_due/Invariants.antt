-- The least due from here on.
use Rattle.std.proofs.Common.{◌≡◌, ◌≤◌, length, drop}
use Rattle.dns_client.specs.Slots.{least_due}
use Rattle.dns_client.proofs.slots.least_due.Given as goal

abbrev pub invariant-loop-at : goal.invariant-loop-at
invariant-loop-at l = record {
  least : l.least ≡ least_due (drop l.at l.slots);
  within : l.at ≤ length l.slots;
}

abbrev pub decreases-loop-at : goal.decreases-loop-at
decreases-loop-at l = l.at
