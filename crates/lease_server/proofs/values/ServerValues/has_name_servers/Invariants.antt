use Rattle.std.proofs.Common.{◌≡◌, drop}
use Rattle.lease_server.specs.Values.{are_unicast}
use Rattle.lease_server.proofs.values.ServerValues.has_name_servers.Given as goal

abbrev pub invariant-loop-server : goal.invariant-loop-server
invariant-loop-server l = are_unicast l.self.dns_servers.items ≡ are_unicast (drop l.server-index l.self.dns_servers.items)
