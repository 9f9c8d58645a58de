-- The slots so far are taken.
use Rattle.std.proofs.Common.{◌≡◌, ◌+◌, drop}
use Rattle.dns_client.specs.Slots.{first_free}
use Rattle.dns_client.proofs.slots.first_free.Given as goal

abbrev pub invariant-loop-at : goal.invariant-loop-at
invariant-loop-at l = l.at + first_free (drop l.at l.slots) ≡ first_free l.slots
