-- An IP packet by its version, and its addresses (RFC 791, section 3.1; RFC 8200, section 3).
use Rattle.std.specs.Prelude.{◌≡◌, Option, Some, None}
use Rattle.std.specs.Net.Addr.{ipv4_octets, ipv6_segments, segments_of}
use Rattle.std.specs.declared.net.ip_addr.IpAddr.{IpAddr}
use Rattle.std.specs.declared.net.ip_addr.IpAddr.TheVariants.{V4, V6}
use Rattle.wire_base.specs.Bytes.{bytes_between}
use Rattle.ether_lax.specs.Nets.{ipv4_bytes, ipv6_bytes}
use Rattle.ether_lax.specs.declared.ipv4.LaxIpv4Slice.{LaxIpv4Slice}
use Rattle.ether_lax.specs.declared.ipv6.LaxIpv6Slice.{LaxIpv6Slice}
use Rattle.ether_lax.specs.declared.ip.LaxIpSlice as ip
use Rattle.ether_lax.specs.declared.net.LaxNetSlice as net

-- the packet of a version, if it has that
abbrev pub IsVersion4 : ip.LaxIpSlice → Option LaxIpv4Slice → Type 0
IsVersion4 (ip.TheVariants.Ipv4 packet) found = found ≡ Some packet
IsVersion4 (ip.TheVariants.Ipv6 packet) found = found ≡ None

abbrev pub IsVersion6 : ip.LaxIpSlice → Option LaxIpv6Slice → Type 0
IsVersion6 (ip.TheVariants.Ipv4 packet) found = found ≡ None
IsVersion6 (ip.TheVariants.Ipv6 packet) found = found ≡ Some packet

-- an IP packet as a part of the network layer
abbrev pub net_of_packet : ip.LaxIpSlice → net.LaxNetSlice
net_of_packet (ip.TheVariants.Ipv4 packet) = net.TheVariants.Ipv4 packet
net_of_packet (ip.TheVariants.Ipv6 packet) = net.TheVariants.Ipv6 packet

-- its addresses
abbrev pub IsSourceOf : ip.LaxIpSlice → IpAddr → Type 0
IsSourceOf (ip.TheVariants.Ipv4 packet) (V4 address) =
    ipv4_octets address ≡ bytes_between 12 16 (ipv4_bytes packet)
IsSourceOf (ip.TheVariants.Ipv6 packet) (V6 address) =
    ipv6_segments address ≡ segments_of (bytes_between 8 24 (ipv6_bytes packet))
IsSourceOf packet address = ⊥

abbrev pub IsDestinationOf : ip.LaxIpSlice → IpAddr → Type 0
IsDestinationOf (ip.TheVariants.Ipv4 packet) (V4 address) =
    ipv4_octets address ≡ bytes_between 16 20 (ipv4_bytes packet)
IsDestinationOf (ip.TheVariants.Ipv6 packet) (V6 address) =
    ipv6_segments address ≡ segments_of (bytes_between 24 40 (ipv6_bytes packet))
IsDestinationOf packet address = ⊥
