-- The servers so far.
use Rattle.std.proofs.Common.{◌≡◌, map, take}
use Rattle.net_wire.specs.declared.address.IpAddress.TheVariants as ip
use Rattle.net_host.proofs.queries.first_servers.Given as goal

abbrev pub invariant-loop-address : goal.invariant-loop-address
invariant-loop-address l = l.servers.items ≡ map ip.Ipv4 (take l.address-index l.addresses)
