use Rattle.std.proofs.Common.{◌≡◌, ap}
use Rattle.ether_lax.specs.IpParts.{IsIpPacket}
use Rattle.ether_lax.proofs.VersionLemmas.{is_no_six, stops_at_auth}
use Rattle.ether_lax.proofs.ipv4.LaxIpv4Slice.from_slice.Goals as goal

pub auth_stop-requires : goal.auth_stop-requires
auth_stop-requires c = stops_at_auth c.args.slice.now c.in_ok-_header.ensures.0 c.ip_packet-packet.result.1 c.ip_packet-packet.result.0 c.ip_packet-packet.ensures

pub unreachable-requires : goal.unreachable-requires
unreachable-requires c =
    is_no_six c.args.slice.now c.in_ok-_header.ensures.0 c.ip_packet-packet.result.1 c.in-Ipv6.field-0 (rw c.in-Ipv6.is at (c.ip_packet-packet.ensures))
