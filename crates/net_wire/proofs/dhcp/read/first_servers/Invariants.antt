-- What is listed, with what is left, gives the first three.
use Rattle.std.proofs.Common.{◌≡◌, ◌≤◌, ◌++◌, length, take}
use Rattle.net_wire.specs.DhcpRead.{unicast_in}
use Rattle.net_wire.proofs.dhcp.read.first_servers.Given as goal

abbrev pub invariant-loop-rest : goal.invariant-loop-rest
invariant-loop-rest l = record {
  same : take 3 (l.servers.items ++ unicast_in l.rest) ≡ take 3 (unicast_in l.fn.bytes);
  within : length l.servers.items ≤ 3;
}

abbrev pub decreases-loop-rest : goal.decreases-loop-rest
decreases-loop-rest l = length l.rest
