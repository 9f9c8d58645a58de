-- ARP packets of Ethernet and IPv4 (RFC 826).
use Rattle.std.specs.Prelude.{◌≡◌, ℕ, ◌<◌, ◌==◌, ◌&&◌, ◌||◌, Bool, true, not, nat_eq, nat_le}
use Rattle.std.specs.Prelude.{List, [], ◌∷◌, ◌++◌, length, Option, Some, None, if◌then◌else◌}
use Rattle.std.specs.Cmp.Lexicographic.{pointwise}
use Rattle.std.specs.Int.{to_be_bytes, w16}
use Rattle.wire_base.specs.Bytes.{bytes_between, be16_at}
use Rattle.net_wire.specs.declared.address.EthernetAddress.{EthernetAddress}
use Rattle.net_wire.specs.declared.arp.ArpRepr.{ArpRepr}
use Rattle.net_wire.specs.Arrival.{is_for, is_group, is_taken_by}
use Rattle.net_wire.specs.Datagram.{ethernet_bytes}
use Rattle.net_wire.specs.DhcpRead.{address_at, hardware_with}
use Rattle.net_wire.specs.Unicast.{is_unicast}

-- hardware type 1, Ethernet; protocol 0800, IPv4; the sizes of their addresses
abbrev pub arp_spaces : List ℕ
arp_spaces = 0 ∷ 1 ∷ 0x08 ∷ 0 ∷ 6 ∷ 4 ∷ []

-- the 28 bytes of a packet
unfoldable pub arp_bytes : ArpRepr → List ℕ
arp_bytes arp =
    arp_spaces ++ to_be_bytes w16 arp.operation ++ arp.source_hardware_addr.0 ++ arp.source_protocol_addr.0
    ++ arp.target_hardware_addr.0 ++ arp.target_protocol_addr.0

-- the frame of 42 bytes that is sent with a packet from one station to another, or to a group
unfoldable pub arp_frame_bytes : EthernetAddress → EthernetAddress → ArpRepr → List ℕ
arp_frame_bytes from to arp = ethernet_bytes to from 0x0806 ++ arp_bytes arp

-- the packet behind the Ethernet II header of a frame, read at its places
abbrev pub arp_at : List ℕ → ArpRepr
arp_at frame = record {
  operation = be16_at frame 20;
  source_hardware_addr = hardware_with (bytes_between 22 28 frame);
  source_protocol_addr = address_at frame 28;
  target_hardware_addr = hardware_with (bytes_between 32 38 frame);
  target_protocol_addr = address_at frame 38;
}

-- a whole packet behind the ether type 0806; bytes may follow
abbrev pub has_arp : List ℕ → Bool
has_arp frame =
    nat_le 42 (length frame) && (be16_at frame 12 == 0x0806)
    && pointwise nat_eq (bytes_between 14 20 frame) arp_spaces

-- a request or a reply that one station with the address of one host says it sent
abbrev pub is_from_host : ArpRepr → Bool
is_from_host arp =
    (arp.operation == 1 || arp.operation == 2) && not (is_group arp.source_hardware_addr.0)
    && is_unicast arp.source_protocol_addr

-- the packet that counts of a frame for a station, if there is one
abbrev pub arriving_arp : EthernetAddress → List ℕ → Option ArpRepr
arriving_arp hardware frame =
    if has_arp frame && is_for hardware frame && is_from_host (arp_at frame) then Some (arp_at frame)
    else None

-- what a packet on the wire is made of: an operation of 16 bits, addresses of six and of four bytes
pub record IsOnTheWire (arp : ArpRepr) : Type 0 where
  pub operation : arp.operation < 65536
  pub source_hardware : length arp.source_hardware_addr.0 ≡ 6
  pub source_protocol : length arp.source_protocol_addr.0 ≡ 4
  pub target_hardware : length arp.target_hardware_addr.0 ≡ 6
  pub target_protocol : length arp.target_protocol_addr.0 ≡ 4

-- a frame that is sent with a packet of one host counts at each station that takes it, whatever follows
abbrev pub SentArpCounts : Type 0
SentArpCounts = (from to hardware : EthernetAddress) (arp : ArpRepr) (behind : List ℕ)
    → length from.0 ≡ 6 → length to.0 ≡ 6 → IsOnTheWire arp → is_from_host arp ≡ true
    → is_taken_by hardware to ≡ true
    → arriving_arp hardware (arp_frame_bytes from to arp ++ behind) ≡ Some arp
