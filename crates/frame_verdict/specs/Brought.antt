-- What a frame brings, whatever host it comes to: a UDP datagram that is all there, or the first reason that it brings none, in the
-- order in which a station takes a frame apart (IEEE 802.3, section 3.2.3; RFC 826; RFC 894; RFC 791, section 3.1; RFC 768).
use Rattle.std.specs.Prelude.{ℕ, ◌==◌, not, nat_le, List, length, take, drop, slice_index, Option, Some, None, Result, Ok, Err, if◌then◌else◌}
use Rattle.wire_base.specs.Bytes.{be16_at}
use Rattle.net_wire.specs.declared.address.EthernetAddress.{EthernetAddress}
use Rattle.net_wire.specs.declared.address.Ipv4Address.{Ipv4Address}
use Rattle.net_wire.specs.declared.arp.ArpRepr.{ArpRepr}
use Rattle.net_wire.specs.Arp.{arriving_arp}
use Rattle.net_wire.specs.Arrival.{body_of, datagram_with, has_right_sum, has_udp, ip_header_len, is_for, is_packet, is_unfragmented, sums_to_zero}
use Rattle.net_wire.specs.Datagram.{Datagram}
use Rattle.net_wire.specs.DhcpRead.{address_at}
use Rattle.net_wire.specs.Unicast.{is_unicast}
use Rattle.frame_verdict.specs.declared.verdict.Reason.{Reason}
use Rattle.frame_verdict.specs.declared.verdict.Reason.TheVariants as reason
use Rattle.frame_verdict.specs.declared.verdict.Verdict.{Verdict}
use Rattle.frame_verdict.specs.declared.verdict.Verdict.TheVariants.{Ignored, Arp}

-- a datagram, or what becomes of the frame without one
abbrev pub Brought : Type 0
Brought = Result Datagram Verdict

abbrev pub ignored : Reason → Brought
ignored why = Err (Ignored why)

-- an ARP packet that counts tells of its sender
abbrev pub brought_by_arp : Option ArpRepr → Brought
brought_by_arp None = ignored reason.Arp
brought_by_arp (Some arp) = Err (Arp arp.source_protocol_addr arp.source_hardware_addr)

-- the UDP header and what is behind it, between two addresses
abbrev pub brought_by_udp : Ipv4Address → Ipv4Address → List ℕ → Brought
brought_by_udp source destination body =
    if not (has_udp body) then ignored reason.Udp
    else if not (has_right_sum source destination body) then ignored reason.UdpSum
    else Ok (datagram_with source destination body)

-- the packet behind an Ethernet header
abbrev pub brought_by_packet : List ℕ → Brought
brought_by_packet packet =
    if not (is_packet packet) then ignored reason.Cut
    else if not (sums_to_zero (take (ip_header_len packet) packet)) then ignored reason.HeaderSum
    else if not (is_unfragmented packet) then ignored reason.Fragment
    else if not (is_unicast (address_at packet 12)) then ignored reason.Source
    else if not (slice_index packet 9 == 17) then ignored reason.Protocol
    else brought_by_udp (address_at packet 12) (address_at packet 16) (body_of packet)

-- a frame that arrives at a station
abbrev pub brought_by : EthernetAddress → List ℕ → Brought
brought_by hardware frame =
    if not (nat_le 14 (length frame)) then ignored reason.Short
    else if not (is_for hardware frame) then ignored reason.Station
    else if be16_at frame 12 == 0x0806 then brought_by_arp (arriving_arp hardware frame)
    else if not (be16_at frame 12 == 0x0800) then ignored reason.EtherType
    else brought_by_packet (drop 14 frame)
