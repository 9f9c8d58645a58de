-- Padding was passed.
use Rattle.std.proofs.Common.{◌≡◌, ◌≤◌, length}
use Rattle.net_wire.specs.DhcpOptions.{items_of}
use Rattle.net_wire.proofs.dhcp.read.first_item.Given as goal

abbrev pub invariant-loop-kind : goal.invariant-loop-kind
invariant-loop-kind l = record {
  same : items_of l.rest ≡ items_of l.fn.bytes;
  within : length l.rest ≤ length l.fn.bytes;
}

abbrev pub decreases-loop-kind : goal.decreases-loop-kind
decreases-loop-kind l = length l.rest
