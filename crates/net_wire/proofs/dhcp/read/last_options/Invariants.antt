-- What was found, with what is left, gives the last options.
use Rattle.std.proofs.Common.{length}
use Rattle.net_wire.specs.DhcpOptions.{items_of}
use Rattle.net_wire.proofs.DhcpFoundLemmas.{AreLastFrom}
use Rattle.net_wire.proofs.dhcp.read.last_options.Given as goal

abbrev pub invariant-loop-item : goal.invariant-loop-item
invariant-loop-item l = AreLastFrom (items_of l.rest) (items_of l.fn.bytes) l.found

abbrev pub decreases-loop-item : goal.decreases-loop-item
decreases-loop-item l = length l.rest
