-- The labels from here on are those of the name; a pointer leaves less below.
use Rattle.std.proofs.Common.{◌≡◌, ◌+◌, length}
use Rattle.net_wire.specs.DnsName.{labels_at}
use Rattle.net_wire.proofs.dns.name.first_label.Given as goal

abbrev pub invariant-loop-label : goal.invariant-loop-label
invariant-loop-label l = labels_at l.below l.rest ≡ labels_at l.fn.below l.fn.rest

abbrev pub decreases-loop-label : goal.decreases-loop-label
decreases-loop-label l = length l.below + length l.rest
