use Rattle.std.proofs.Common.{refl}
use Rattle.net_wire.specs.Arp.{arp_bytes, arp_frame_bytes}
use Rattle.net_wire.specs.Datagram.{ethernet_bytes, ipv4_bytes, pseudo_header, udp_bytes}
use Rattle.rule_examples.proofs.headers.sent_headers.Goals as goal

pub returns : goal.returns
unfolding ethernet_bytes ipv4_bytes udp_bytes pseudo_header arp_bytes arp_frame_bytes
returns c = record {
  ethernet = refl;
  ipv4 = refl;
  udp = refl;
  pseudo = refl;
  arp = refl;
  arp_frame = refl;
  arp_read = refl;
}
