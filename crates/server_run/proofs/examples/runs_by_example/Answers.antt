use Rattle.std.proofs.Common.{refl}
use Rattle.net_wire.specs.Datagram.{pseudo_header}
use Rattle.net_wire.specs.DhcpOptions.{items_within}
use Rattle.server_run.proofs.examples.runs_by_example.Goals as goal

pub returns : goal.returns
unfolding items_within pseudo_header
returns c = record { offered = refl; granted = refl }
