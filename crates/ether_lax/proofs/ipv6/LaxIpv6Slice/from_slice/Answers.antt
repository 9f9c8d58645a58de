use Rattle.ether_lax.proofs.VersionLemmas.{is_no_four}
use Rattle.ether_lax.proofs.ipv6.LaxIpv6Slice.from_slice.Goals as goal

pub unreachable-requires : goal.unreachable-requires
unreachable-requires c =
    is_no_four c.args.slice.now c.in_ok-_header.ensures.0 c.ip_packet-packet.result.1 c.in-Ipv4.field-0 (rw c.in-Ipv4.is at (c.ip_packet-packet.ensures))
