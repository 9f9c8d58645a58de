-- UDP datagrams in IPv4 in Ethernet II frames (RFC 894; RFC 791, section 3.1; RFC 768; sums by RFC 1071).
use Rattle.std.specs.Prelude.{◌≡◌, ℕ, ◌+◌, ◌<◌, List, [], ◌∷◌, ◌++◌, length}
use Rattle.std.specs.Int.{to_be_bytes, w16}
use Rattle.wire_base.specs.Checksum.{SumsToZero}
use Rattle.net_wire.specs.declared.address.EthernetAddress.{EthernetAddress}
use Rattle.net_wire.specs.declared.address.Ipv4Address.{Ipv4Address}
use Rattle.net_wire.specs.declared.ipv4.Ipv4Repr.{Ipv4Repr}
use Rattle.net_wire.specs.Protocol.{ip_protocol_number}
use Rattle.net_wire.specs.declared.udp.UdpRepr.{UdpRepr}

-- a UDP datagram and the addresses that it goes between
pub record Datagram : Type 0 where
  pub source : Ipv4Address
  pub destination : Ipv4Address
  pub source_port : ℕ
  pub destination_port : ℕ
  pub payload : List ℕ

-- the datagram that headers and a payload make
abbrev pub datagram_of : Ipv4Repr → UdpRepr → List ℕ → Datagram
datagram_of ip udp payload = record {
  source = ip.src_addr;
  destination = ip.dst_addr;
  source_port = udp.src_port;
  destination_port = udp.dst_port;
  payload = payload;
}

-- the Ethernet II header: destination, source, ether type
unfoldable pub ethernet_bytes : EthernetAddress → EthernetAddress → ℕ → List ℕ
ethernet_bytes destination source ether_type = destination.0 ++ source.0 ++ to_be_bytes w16 ether_type

-- the IPv4 header of 20 bytes: type of service 0, identification 0, don't fragment, these numbers, this
-- checksum
unfoldable pub ipv4_bytes : Ipv4Address → Ipv4Address → ℕ → ℕ → ℕ → ℕ → List ℕ
ipv4_bytes source destination protocol payload_len hop_limit checksum =
    0x45 ∷ 0 ∷ [] ++ to_be_bytes w16 (payload_len + 20) ++ 0 ∷ 0 ∷ 0x40 ∷ 0 ∷ hop_limit ∷ protocol ∷ []
    ++ to_be_bytes w16 checksum ++ source.0 ++ destination.0

-- the header of a UDP datagram of so many bytes, header included
unfoldable pub udp_bytes : ℕ → ℕ → ℕ → ℕ → List ℕ
udp_bytes source_port destination_port len checksum =
    to_be_bytes w16 source_port ++ to_be_bytes w16 destination_port ++ to_be_bytes w16 len
    ++ to_be_bytes w16 checksum

-- what the UDP checksum covers besides the datagram (RFC 768): addresses, a zero byte, protocol 17, length
unfoldable pub pseudo_header : Ipv4Address → Ipv4Address → ℕ → List ℕ
pseudo_header source destination len = source.0 ++ destination.0 ++ 0 ∷ 17 ∷ [] ++ to_be_bytes w16 len

-- The bytes are an IPv4 header whose words sum to zero. The checksum field is never FFFF, so there is one
-- such list.
pub record IsIpv4Header (source destination : Ipv4Address) (protocol payload_len hop_limit : ℕ)
    (header : List ℕ) : Type 0 where
  pub checksum : ℕ
  pub within : checksum < 65535
  pub bytes : header ≡ ipv4_bytes source destination protocol payload_len hop_limit checksum
  pub sums : SumsToZero (ipv4_bytes source destination protocol payload_len hop_limit checksum)

-- the bytes are the header that these fields make
abbrev pub IsHeaderOf : Ipv4Repr → List ℕ → Type 0
IsHeaderOf ip header =
    IsIpv4Header ip.src_addr ip.dst_addr (ip_protocol_number ip.next_header) ip.payload_len ip.hop_limit
    header

-- The frame that carries a datagram from one hardware address to another. Its UDP checksum field is never 0,
-- which would say that there is none, so there is one such frame.
pub record IsSentFrame (from to : EthernetAddress) (hop_limit : ℕ) (datagram : Datagram)
    (frame : List ℕ) : Type 0 where
  pub header : List ℕ
  pub udp_checksum : ℕ
  pub within : (0 < udp_checksum) × (udp_checksum < 65536)
  pub ipv4 : IsIpv4Header datagram.source datagram.destination 17 (length datagram.payload + 8) hop_limit
      header
  pub bytes : frame ≡ ethernet_bytes to from 0x0800 ++ header
      ++ udp_bytes datagram.source_port datagram.destination_port (length datagram.payload + 8) udp_checksum
      ++ datagram.payload
  pub sums : SumsToZero (pseudo_header datagram.source datagram.destination (length datagram.payload + 8)
      ++ udp_bytes datagram.source_port datagram.destination_port (length datagram.payload + 8) udp_checksum
      ++ datagram.payload)

-- no two frames carry one datagram
abbrev pub IsOneSentFrame : Type 0
IsOneSentFrame = (from to : EthernetAddress) (hop_limit : ℕ) (datagram : Datagram)
    → length datagram.source.0 ≡ 4 → length datagram.destination.0 ≡ 4 → (frame other : List ℕ)
    → IsSentFrame from to hop_limit datagram frame → IsSentFrame from to hop_limit datagram other
    → frame ≡ other
