-- The frames that a station takes off the link, and the UDP datagram that one carries (RFC 894; RFC 791,
-- section 3.1; RFC 768). Sums are congruences: FFFF in a frame is the same number as 0000 (RFC 1071,
-- section 2).
use Rattle.std.specs.Prelude.{◌≡◌, ℕ, ◌*◌, ◌/◌, ◌%◌, ◌<◌, ◌≤◌, ◌==◌, ◌&&◌, ◌||◌, Bool, true, nat_eq, nat_le}
use Rattle.std.specs.Prelude.{List, ◌++◌, length, replicate, take, drop, slice_index, Option, Some, None, if◌then◌else◌}
use Rattle.std.specs.Cmp.Lexicographic.{pointwise}
use Rattle.wire_base.specs.Bytes.{bytes_between, be16_at, flag_at}
use Rattle.wire_base.specs.Checksum.{word_sum}
use Rattle.net_wire.specs.declared.address.EthernetAddress.{EthernetAddress}
use Rattle.net_wire.specs.declared.address.Ipv4Address.{Ipv4Address}
use Rattle.net_wire.specs.declared.arrival.Sources.{Sources}
use Rattle.net_wire.specs.declared.arrival.Sources.TheVariants.{Unicast, UnicastOrUnspecified}
use Rattle.net_wire.specs.Datagram.{Datagram, pseudo_header, IsSentFrame}
use Rattle.net_wire.specs.DhcpRead.{address_at, hardware_with}
use Rattle.net_wire.specs.Unicast.{is_unicast}

-- the address of a group of stations: the lowest bit of its first byte is set (IEEE 802.3, section 3.2.3)
abbrev pub is_group : List ℕ → Bool
is_group address = flag_at address 0 0

-- a station takes frames to its own address and to those of groups
abbrev pub is_taken_by : EthernetAddress → EthernetAddress → Bool
is_taken_by hardware destination = pointwise nat_eq destination.0 hardware.0 || is_group destination.0

-- the destination, which the first six bytes are, is one of these
abbrev pub is_for : EthernetAddress → List ℕ → Bool
is_for hardware frame = is_taken_by hardware (hardware_with (bytes_between 0 6 frame))

-- the length of the IPv4 header, which is counted in words of 32 bits, and that of the packet with its header
abbrev pub ip_header_len : List ℕ → ℕ
ip_header_len packet = slice_index packet 0 % 16 * 4

abbrev pub total_len : List ℕ → ℕ
total_len packet = be16_at packet 2

-- what a packet carries: the bytes from the end of its header to its total length, without what pads a frame
abbrev pub body_of : List ℕ → List ℕ
body_of packet = bytes_between (ip_header_len packet) (total_len packet) packet

-- the length of a UDP datagram, header included
abbrev pub udp_len : List ℕ → ℕ
udp_len body = be16_at body 4

abbrev pub sums_to_zero : List ℕ → Bool
sums_to_zero bytes = word_sum bytes % 65535 == 0

-- the version 4, the header and all that the total length announces
abbrev pub is_packet : List ℕ → Bool
is_packet packet =
    nat_le 20 (length packet) && (slice_index packet 0 / 16 == 4) && nat_le 20 (ip_header_len packet)
    && nat_le (ip_header_len packet) (total_len packet) && nat_le (total_len packet) (length packet)

-- Neither do more fragments follow nor is there an offset. Of the 16 bits of flags and offset the highest
-- two are left out: one is reserved, the other is don't fragment.
abbrev pub is_unfragmented : List ℕ → Bool
is_unfragmented packet = be16_at packet 6 % 0x4000 == 0

-- 0.0.0.0, from which a host sends that has no address yet (RFC 1122, section 3.2.1.3)
abbrev pub is_unspecified : Ipv4Address → Bool
is_unspecified address = pointwise nat_eq address.0 (replicate 4 0)

-- the addresses that count as sources
abbrev pub counts : Sources → Ipv4Address → Bool
counts Unicast source = is_unicast source
counts UnicastOrUnspecified source = is_unicast source || is_unspecified source

-- a right header sum, no fragment, from a source that counts, of the protocol UDP
abbrev pub is_udp_packet : Sources → List ℕ → Bool
is_udp_packet sources packet =
    sums_to_zero (take (ip_header_len packet) packet) && is_unfragmented packet
    && counts sources (address_at packet 12) && (slice_index packet 9 == 17)

-- a UDP header of 8 bytes, and as many bytes as its length says
abbrev pub has_udp : List ℕ → Bool
has_udp body =
    nat_le 8 (length body) && nat_le 8 (udp_len body) && nat_le (udp_len body) (length body)

-- the sum of a UDP datagram between two addresses is right, or there is none
abbrev pub has_right_sum : Ipv4Address → Ipv4Address → List ℕ → Bool
has_right_sum source destination body =
    (be16_at body 6 == 0)
    || sums_to_zero (pseudo_header source destination (udp_len body) ++ take (udp_len body) body)

-- the datagram between two addresses that a UDP header and the bytes behind it are
abbrev pub datagram_with : Ipv4Address → Ipv4Address → List ℕ → Datagram
datagram_with source destination body = record {
  source = source;
  destination = destination;
  source_port = be16_at body 0;
  destination_port = be16_at body 2;
  payload = bytes_between 8 (udp_len body) body;
}

abbrev pub udp_datagram : Ipv4Address → Ipv4Address → List ℕ → Option Datagram
udp_datagram source destination body =
    if has_udp body && has_right_sum source destination body then Some (datagram_with source destination body)
    else None

-- the datagram of an IPv4 packet that is all there, with UDP right behind its header
abbrev pub packet_datagram : Sources → List ℕ → Option Datagram
packet_datagram sources packet =
    if is_packet packet && is_udp_packet sources packet
    then udp_datagram (address_at packet 12) (address_at packet 16) (body_of packet) else None

-- the ether type 0800 right behind the addresses, the destination being the station or a group
abbrev pub has_packet_for : EthernetAddress → List ℕ → Bool
has_packet_for hardware frame =
    nat_le 14 (length frame) && (be16_at frame 12 == 0x0800) && is_for hardware frame

-- the datagram that a frame carries to a station, if it carries one from a source that counts
abbrev pub carried_datagram : Sources → EthernetAddress → List ℕ → Option Datagram
carried_datagram sources hardware frame =
    if has_packet_for hardware frame then packet_datagram sources (drop 14 frame) else None

-- and one from one host
abbrev pub arriving_datagram : EthernetAddress → List ℕ → Option Datagram
arriving_datagram = carried_datagram Unicast

-- what a datagram that can be sent is made of: addresses of four bytes, ports of 16 bits, at most 65507 bytes
pub record IsSendable (datagram : Datagram) : Type 0 where
  pub source : length datagram.source.0 ≡ 4
  pub destination : length datagram.destination.0 ≡ 4
  pub source_port : datagram.source_port < 65536
  pub destination_port : datagram.destination_port < 65536
  pub payload : length datagram.payload ≤ 65507

-- a frame that is sent with a datagram of a source that counts carries it to each station that takes the frame
abbrev pub SentFramesArrive : Type 0
SentFramesArrive = (sources : Sources) (from to hardware : EthernetAddress) (hop_limit : ℕ) (datagram : Datagram)
    (frame : List ℕ) → length from.0 ≡ 6 → length to.0 ≡ 6 → IsSendable datagram
    → counts sources datagram.source ≡ true → is_taken_by hardware to ≡ true
    → IsSentFrame from to hop_limit datagram frame → carried_datagram sources hardware frame ≡ Some datagram
