-- The parts of the frame that carries a datagram (RFC 894; RFC 791, section 3.1; RFC 768).
use Rattle.std.specs.Prelude.{◌≡◌, ℕ, ◌+◌, ◌^◌, ◌<◌, ◌≤◌, true, false, List, [], ◌∷◌, length, Option, None}
use Rattle.net_wire.specs.Datagram.{Datagram, IsSentFrame}
use Rattle.net_wire.specs.declared.address.EthernetAddress.{EthernetAddress}
use Rattle.ether_link.specs.Layout.{IsLayoutFrom}
use Rattle.ether_link.specs.LinkGrammar.{link_turn}
use Rattle.ether_link.specs.Places.{header_at}
use Rattle.ether_link.specs.Ethernet2.{ethernet2_header}
use Rattle.ether_link.specs.declared.layout.PartKind.TheVariants.{Ethernet2, Ip, Udp}
use Rattle.ether_link.specs.declared.layout.Place.{Place}
use Rattle.ether_link.specs.declared.layout.Stop.{Stop}
use Rattle.ether_link.specs.declared.link.ethernet2.Ethernet2Header.{Ethernet2Header}
use Rattle.ether_ip.specs.CutPacket.{window_of}
use Rattle.ether_ip.specs.PacketGrammar.{packet_grammar}
use Rattle.ether_ip.specs.Ipv4.{ipv4_header}
use Rattle.ether_ip.specs.Udp.{udp_header}
use Rattle.ether_ip.specs.declared.err.packet.SliceError.{SliceError}
use Rattle.ether_ip.specs.declared.ip.ipv4.Ipv4Header.{Ipv4Header}
use Rattle.ether_ip.specs.declared.transport.udp.UdpHeader.{UdpHeader}

-- the addresses have their bytes, the ports fit their fields, and the payload fits an IPv4 packet
pub record CanBeSent (from to : EthernetAddress) (datagram : Datagram) : Type 0 where
  pub stations : (length from.0 ≡ 6) × (length to.0 ≡ 6)
  pub hosts : (length datagram.source.0 ≡ 4) × (length datagram.destination.0 ≡ 4)
  pub ports : (datagram.source_port < 2 ^ 16) × (datagram.destination_port < 2 ^ 16)
  pub payload : length datagram.payload ≤ 65507

-- the places of the three headers in a frame of so many bytes, whose windows all reach to its last byte
abbrev pub ethernet_place : ℕ → Place
ethernet_place len = record { kind = Ethernet2; start = 0; body = 14; end = len }

abbrev pub ipv4_place : ℕ → Place
ipv4_place len = record { kind = Ip; start = 14; body = 34; end = len }

abbrev pub udp_place : ℕ → Place
udp_place len = record { kind = Udp; start = 34; body = 42; end = len }

abbrev pub datagram_places : ℕ → List Place
datagram_places len = ethernet_place len ∷ ipv4_place len ∷ udp_place len ∷ []

-- the fields of the headers
abbrev pub sent_ethernet : EthernetAddress → EthernetAddress → ℕ → Ethernet2Header
sent_ethernet from to number =
    record { source = from.0; destination = to.0; ether_type = record { 0 = number } }

abbrev pub sent_ipv4 : ℕ → Datagram → ℕ → Ipv4Header
sent_ipv4 hop_limit datagram checksum = record {
  dscp = 0;
  ecn = 0;
  total_len = length datagram.payload + 28;
  identification = 0;
  dont_fragment = true;
  more_fragments = false;
  fragment_offset = 0;
  time_to_live = hop_limit;
  protocol = record { 0 = 17 };
  header_checksum = checksum;
  source = datagram.source.0;
  destination = datagram.destination.0;
  options = record { items = [] };
}

abbrev pub sent_udp : Datagram → ℕ → UdpHeader
sent_udp datagram checksum = record {
  source_port = datagram.source_port;
  destination_port = datagram.destination_port;
  length = length datagram.payload + 8;
  checksum = checksum;
}

-- The places and the stop are the frame's layout as a packet that begins with an Ethernet header.
abbrev pub IsEthernetLayout : List ℕ → List Place → Option (Stop SliceError) → Type 0
IsEthernetLayout frame places stop =
    IsLayoutFrom packet_grammar frame (link_turn Ethernet2 0) 0 (length frame) places stop

-- The frame is cut into Ethernet, IPv4 and UDP without a stop and in no other way, the headers have the
-- values of the datagram, and the bytes behind them are its payload.
pub record IsCutIntoDatagram (from to : EthernetAddress) (hop_limit : ℕ) (datagram : Datagram)
    (frame : List ℕ) : Type 0 where
  pub layout : IsEthernetLayout frame (datagram_places (length frame)) None
  pub only : (places : List Place) (stop : Option (Stop SliceError)) → IsEthernetLayout frame places stop
      → (places ≡ datagram_places (length frame)) × (stop ≡ None)
  pub ethernet : ethernet2_header (header_at frame (ethernet_place (length frame)))
      ≡ sent_ethernet from to 0x0800
  pub ipv4_checksum : ℕ
  pub ipv4 : ipv4_header (header_at frame (ipv4_place (length frame)))
      ≡ sent_ipv4 hop_limit datagram ipv4_checksum
  pub udp_checksum : ℕ
  pub udp : udp_header (header_at frame (udp_place (length frame))) ≡ sent_udp datagram udp_checksum
  pub payload : window_of frame (udp_place (length frame)) ≡ datagram.payload

-- each frame that carries a datagram is cut into it
abbrev pub AreCutAsSent : Type 0
AreCutAsSent = (from to : EthernetAddress) (hop_limit : ℕ) (datagram : Datagram) (frame : List ℕ)
    → CanBeSent from to datagram → IsSentFrame from to hop_limit datagram frame
    → IsCutIntoDatagram from to hop_limit datagram frame
