-- The parts of the frame that carries an ARP packet (RFC 826; RFC 894).
use Rattle.std.specs.Prelude.{◌≡◌, ℕ, List, [], ◌∷◌, ◌++◌, length, Option, None}
use Rattle.net_wire.specs.Arp.{arp_frame_bytes, IsOnTheWire}
use Rattle.net_wire.specs.declared.address.EthernetAddress.{EthernetAddress}
use Rattle.net_wire.specs.declared.arp.ArpRepr.{ArpRepr}
use Rattle.ether_link.specs.Arp.{arp_packet}
use Rattle.ether_link.specs.Places.{header_at}
use Rattle.ether_link.specs.Ethernet2.{ethernet2_header}
use Rattle.ether_link.specs.declared.layout.PartKind.TheVariants.{Arp}
use Rattle.ether_link.specs.declared.layout.Place.{Place}
use Rattle.ether_link.specs.declared.layout.Stop.{Stop}
use Rattle.ether_link.specs.declared.link.arp.ArpPacket.{ArpPacket}
use Rattle.ether_ip.specs.declared.err.packet.SliceError.{SliceError}
use Rattle.frame_laws.specs.SentParts.{ethernet_place, sent_ethernet, IsEthernetLayout}

-- the place of the packet: 28 bytes behind the Ethernet header
abbrev pub arp_place : Place
arp_place = record { kind = Arp; start = 14; body = 42; end = 42 }

-- the fields of the packet: hardware type 1, Ethernet, and protocol 0800, IPv4
abbrev pub sent_arp : ArpRepr → ArpPacket
sent_arp arp = record {
  hw_addr_type = record { 0 = 1 };
  proto_addr_type = record { 0 = 0x0800 };
  operation = record { 0 = arp.operation };
  sender_hw_addr = record { items = arp.source_hardware_addr.0 };
  sender_protocol_addr = record { items = arp.source_protocol_addr.0 };
  target_hw_addr = record { items = arp.target_hardware_addr.0 };
  target_protocol_addr = record { items = arp.target_protocol_addr.0 };
}

-- The frame is cut into Ethernet and ARP without a stop and in no other way, and the headers have the values
-- of the packet.
pub record IsCutIntoArp (from to : EthernetAddress) (arp : ArpRepr) (frame : List ℕ) : Type 0 where
  pub layout : IsEthernetLayout frame (ethernet_place (length frame) ∷ arp_place ∷ []) None
  pub only : (places : List Place) (stop : Option (Stop SliceError)) → IsEthernetLayout frame places stop
      → (places ≡ ethernet_place (length frame) ∷ arp_place ∷ []) × (stop ≡ None)
  pub ethernet : ethernet2_header (header_at frame (ethernet_place (length frame)))
      ≡ sent_ethernet from to 0x0806
  pub packet : arp_packet (header_at frame arp_place) ≡ sent_arp arp

-- each frame that is sent with a packet is cut into it, whatever follows, as the padding of a short frame
abbrev pub IsArpCutAsSent : Type 0
IsArpCutAsSent = (from to : EthernetAddress) (arp : ArpRepr) (behind : List ℕ)
    → length from.0 ≡ 6 → length to.0 ≡ 6 → IsOnTheWire arp
    → IsCutIntoArp from to arp (arp_frame_bytes from to arp ++ behind)
