-- The headers that a host writes, with fields that all differ.
use Rattle.std.specs.Prelude.{◌≡◌, ℕ, List, [], ◌∷◌}
use Rattle.net_wire.specs.Arp.{arp_at, arp_bytes, arp_frame_bytes}
use Rattle.net_wire.specs.Datagram.{ethernet_bytes, ipv4_bytes, pseudo_header, udp_bytes}
use Rattle.net_wire.specs.declared.address.EthernetAddress.{EthernetAddress}
use Rattle.net_wire.specs.declared.address.Ipv4Address.{Ipv4Address}
use Rattle.net_wire.specs.declared.arp.ArpRepr.{ArpRepr}

abbrev pub here : EthernetAddress
here = record { 0 = 1 ∷ 2 ∷ 3 ∷ 4 ∷ 5 ∷ 6 ∷ [] }

abbrev pub there : EthernetAddress
there = record { 0 = 7 ∷ 8 ∷ 9 ∷ 10 ∷ 11 ∷ 12 ∷ [] }

abbrev pub source : Ipv4Address
source = record { 0 = 13 ∷ 14 ∷ 15 ∷ 16 ∷ [] }

abbrev pub target : Ipv4Address
target = record { 0 = 17 ∷ 18 ∷ 19 ∷ 20 ∷ [] }

abbrev pub packet : ArpRepr
packet = record {
  operation = 0x0201;
  source_hardware_addr = here;
  source_protocol_addr = source;
  target_hardware_addr = there;
  target_protocol_addr = target;
}

-- hardware type 1, protocol 0800, sizes 6 and 4, operation, and the addresses of sender and target (RFC 826)
abbrev pub packet_bytes : List ℕ
packet_bytes =
    0 ∷ 1 ∷ 8 ∷ 0 ∷ 6 ∷ 4 ∷ 2 ∷ 1 ∷ 1 ∷ 2 ∷ 3 ∷ 4 ∷ 5 ∷ 6 ∷ 13 ∷ 14 ∷ 15 ∷ 16 ∷ 7 ∷ 8 ∷ 9 ∷ 10 ∷ 11 ∷ 12 ∷ 17 ∷ 18
    ∷ 19 ∷ 20 ∷ []

-- Ethernet: destination, source and type (IEEE 802.3, section 3.2). IPv4: version 4 and five words, no service,
-- total length, no identification, the flag DF, hop limit, protocol, checksum, source and destination (RFC 791,
-- section 3.1). UDP: ports of source and destination, length, checksum; its checksum covers the addresses, a zero,
-- the protocol 17 and the length too (RFC 768).
pub record SentHeaders : Type 0 where
  pub ethernet : ethernet_bytes there here 0x1516
      ≡ 7 ∷ 8 ∷ 9 ∷ 10 ∷ 11 ∷ 12 ∷ 1 ∷ 2 ∷ 3 ∷ 4 ∷ 5 ∷ 6 ∷ 0x15 ∷ 0x16 ∷ []
  pub ipv4 : ipv4_bytes source target 89 0x0102 77 0x0304
      ≡ 0x45 ∷ 0 ∷ 0x01 ∷ 0x16 ∷ 0 ∷ 0 ∷ 0x40 ∷ 0 ∷ 77 ∷ 89 ∷ 3 ∷ 4 ∷ 13 ∷ 14 ∷ 15 ∷ 16 ∷ 17 ∷ 18 ∷ 19 ∷ 20 ∷ []
  pub udp : udp_bytes 0x0102 0x0304 0x0506 0x0708 ≡ 1 ∷ 2 ∷ 3 ∷ 4 ∷ 5 ∷ 6 ∷ 7 ∷ 8 ∷ []
  pub pseudo : pseudo_header source target 0x0506
      ≡ 13 ∷ 14 ∷ 15 ∷ 16 ∷ 17 ∷ 18 ∷ 19 ∷ 20 ∷ 0 ∷ 17 ∷ 5 ∷ 6 ∷ []
  pub arp : arp_bytes packet ≡ packet_bytes
  pub arp_frame : arp_frame_bytes here there packet
      ≡ 7 ∷ 8 ∷ 9 ∷ 10 ∷ 11 ∷ 12 ∷ 1 ∷ 2 ∷ 3 ∷ 4 ∷ 5 ∷ 6 ∷ 0x08 ∷ 0x06 ∷ packet_bytes
  pub arp_read : arp_at (7 ∷ 8 ∷ 9 ∷ 10 ∷ 11 ∷ 12 ∷ 1 ∷ 2 ∷ 3 ∷ 4 ∷ 5 ∷ 6 ∷ 0x08 ∷ 0x06 ∷ packet_bytes) ≡ packet
