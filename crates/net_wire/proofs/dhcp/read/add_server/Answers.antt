use Rattle.std.proofs.Common.{sym, ◌∙◌, arith}
use Rattle.net_wire.specs.DhcpRead.{with_unicast}
use Rattle.net_wire.proofs.DhcpServersLemmas.{passed, full}
use Rattle.net_wire.proofs.dhcp.read.add_server.Goals as goal
use Rattle.net_wire.proofs.dhcp.read.add_server.Goals.{else-is_unicast-via-then-is_unicast+else-len-lt3, else-is_unicast-via-else-is_unicast}

pub returns-else-is_unicast-clause-value : goal.returns-else-is_unicast-clause-value
returns-else-is_unicast-clause-value c = λ more.
    elim c.else-is_unicast.branch [
      | else-is_unicast-via-then-is_unicast+else-len-lt3 w ↦ full c.args.servers.now.items more (with_unicast c.args.address more) (omega arith)
      | else-is_unicast-via-else-is_unicast w ↦ passed c.args.servers.now.items more c.args.address (sym c.is_unicast.ensures ∙ w.if-is_unicast.false)
    ]
