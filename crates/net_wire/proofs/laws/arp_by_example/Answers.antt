use Rattle.std.proofs.Common.{refl}
use Rattle.net_wire.specs.Arp.{arp_bytes, arp_frame_bytes}
use Rattle.net_wire.specs.Datagram.{ethernet_bytes}
use Rattle.net_wire.proofs.laws.arp_by_example.Goals as goal

pub returns : goal.returns
unfolding arp_bytes arp_frame_bytes ethernet_bytes
returns c = record {
  bytes = refl;
  counts = refl;
  reply = refl;
  other_operation = refl;
  padded = refl;
  cut = refl;
  to_other = refl;
  from_group = refl;
  from_nobody = refl;
  other_hardware = refl;
  other_protocol = refl;
  other_hardware_size = refl;
  other_protocol_size = refl;
}
