-- What a station makes of a frame: whether it has a reply of DHCP, and how it answers who has an address.
use Rattle.std.specs.Prelude.{ℕ, ◌==◌, ◌&&◌, Bool, false, nat_eq, List, Option, Some, None, if◌then◌else◌}
use Rattle.std.specs.Cmp.Lexicographic.{pointwise}
use Rattle.net_wire.specs.declared.address.EthernetAddress.{EthernetAddress}
use Rattle.net_wire.specs.declared.address.Ipv4Address.{Ipv4Address}
use Rattle.net_wire.specs.declared.arp.ArpRepr.{ArpRepr}
use Rattle.net_wire.specs.Arp.{arp_frame_bytes}
use Rattle.net_wire.specs.Datagram.{Datagram}

-- from the port of servers to that of clients (RFC 2131, section 4.1)
abbrev pub is_dhcp_reply : Option Datagram → Bool
is_dhcp_reply None = false
is_dhcp_reply (Some datagram) = (datagram.source_port == 67) && (datagram.destination_port == 68)

-- The reply to a request has its fields swapped, with the hardware address that was asked for in the
-- sender's, and goes to who asked (RFC 826, section "Packet Reception").
abbrev pub reply_to : EthernetAddress → ArpRepr → ArpRepr
reply_to hardware request = record {
  operation = 2;
  source_hardware_addr = hardware;
  source_protocol_addr = request.target_protocol_addr;
  target_hardware_addr = request.source_hardware_addr;
  target_protocol_addr = request.source_protocol_addr;
}

abbrev pub asks_for : Ipv4Address → ArpRepr → Bool
asks_for address arp = (arp.operation == 1) && pointwise nat_eq arp.target_protocol_addr.0 address.0

-- the frame that answers a packet, if it asks for the address
abbrev pub answer_to : EthernetAddress → Ipv4Address → Option ArpRepr → Option (List ℕ)
answer_to hardware address None = None
answer_to hardware address (Some arp) =
    if asks_for address arp
    then Some (arp_frame_bytes hardware arp.source_hardware_addr (reply_to hardware arp))
    else None
