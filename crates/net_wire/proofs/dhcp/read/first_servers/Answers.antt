use Rattle.std.proofs.Common.{sym, ◌∙◌}
use Rattle.net_wire.specs.DhcpRead.{unicast_in}
use Rattle.net_wire.proofs.DhcpServersLemmas.{ended, no_address}
use Rattle.net_wire.proofs.dhcp.read.first_servers.Goals as goal

pub returns : goal.returns
returns c =
    sym (ended c.loop-rest.servers.items (unicast_in c.loop-rest.rest.now) c.loop-rest.invariant.within
    (no_address c.loop-rest.rest.now c.loop-rest-test.false))
    ∙ c.loop-rest.invariant.same
