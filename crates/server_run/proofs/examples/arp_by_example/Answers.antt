use Rattle.std.proofs.Common.{refl}
use Rattle.net_wire.specs.Arp.{arp_bytes, arp_frame_bytes}
use Rattle.net_wire.specs.Datagram.{ethernet_bytes}
use Rattle.server_run.proofs.examples.arp_by_example.Goals as goal

pub returns : goal.returns
unfolding arp_bytes arp_frame_bytes ethernet_bytes
returns c = record { told = refl; sent = refl; other = refl; reply = refl; tick = refl }
