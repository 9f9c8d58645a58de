-- What the host's emitter does with a message, and with ARP packets.
use Rattle.std.specs.Prelude.{◌≡◌, ℕ, ◌<◌, ◌^◌, List, [], ◌∷◌, ◌++◌, length, Option, Some, None, if◌then◌else◌}
use Rattle.net_wire.specs.declared.address.EthernetAddress.{EthernetAddress}
use Rattle.net_wire.specs.declared.address.Ipv4Address.{Ipv4Address}
use Rattle.net_wire.specs.declared.arp.ArpRepr.{ArpRepr}
use Rattle.net_wire.specs.Arp.{arp_frame_bytes}
use Rattle.net_wire.specs.Datagram.{IsSentFrame, datagram_of, Datagram}
use Rattle.net_wire.specs.DhcpBytes.{message_bytes}
use Rattle.dhcp_client.specs.Hearing.{same_address}
use Rattle.dhcp_client.specs.Messages.{Outgoing, limited_broadcast}
use Rattle.host_model.specs.declared.held.Held.{Held}
use Rattle.host_model.specs.Frames.{asks_for, reply_to, request_for}
use Rattle.host_model.specs.Neighbor.{ethernet_broadcast, hop_address, hop_of}
use Rattle.net_host.specs.declared.emitter.Emitter.{Emitter}
use Rattle.net_host.specs.declared.report.Mark.TheVariants.{ArpReply, ArpRequest, Dhcp}
use Rattle.net_host.specs.declared.report.Sent.{Sent}
use Rattle.net_host.specs.Neighbors.{neighbor_with}

-- the datagram of a message
abbrev pub datagram_in : Outgoing → Datagram
datagram_in outgoing = datagram_of outgoing.ip outgoing.udp (message_bytes outgoing.message)

-- the hop at an address, if there is one, by the table and the time of the event
abbrev pub hop_at : Emitter → Option Ipv4Address → Option EthernetAddress
hop_at out None = None
hop_at out (Some address) = hop_of out.at (neighbor_with out.neighbors address)

-- the hop that the emitter knows: that of all hosts of the link is all stations of it
abbrev pub hop_by : Emitter → Ipv4Address → Option EthernetAddress
hop_by out destination =
    if same_address destination limited_broadcast then Some ethernet_broadcast
    else hop_at out (hop_address out.held destination)

-- The hop of the message is known, and the list of sent frames grew by the one frame that carries the message
-- to it.
pub record TakesMessage (old new : Emitter) (outgoing : Outgoing) : Type 0 where
  pub hop : EthernetAddress
  pub frame : List ℕ
  pub known : hop_by old outgoing.ip.dst_addr ≡ Some hop
  pub carries : IsSentFrame old.hardware hop outgoing.ip.hop_limit (datagram_in outgoing) frame
  pub within : length frame < 2 ^ 32
  pub listed : new ≡ record old { sent = old.sent ++ record { mark = Dhcp; frame = frame } ∷ [] }

-- the hop of the message is not known, which is noted, and all else stays
pub record RefusesMessage (old new : Emitter) (outgoing : Outgoing) : Type 0 where
  pub unknown : hop_by old outgoing.ip.dst_addr ≡ None
  pub noted : new ≡ record old { refused = Some outgoing.ip.dst_addr }

-- the frame of the reply to an ARP packet that asks for the held address
abbrev pub reply_sent : EthernetAddress → Option Held → ArpRepr → List Sent
reply_sent hardware None arp = []
reply_sent hardware (Some held) arp =
    if asks_for held arp
    then record {
      mark = ArpReply;
      frame = arp_frame_bytes hardware arp.source_hardware_addr (reply_to hardware held arp);
    } ∷ []
    else []

-- the frame of the request for the station with an address
abbrev pub request_sent : EthernetAddress → Option Held → Option Ipv4Address → List Sent
request_sent hardware None address = []
request_sent hardware (Some held) None = []
request_sent hardware (Some held) (Some address) = record {
  mark = ArpRequest;
  frame = arp_frame_bytes hardware ethernet_broadcast (request_for hardware held address);
} ∷ []

-- the address of the hop that was not known
abbrev pub hop_of_refused : Option Held → Option Ipv4Address → Option Ipv4Address
hop_of_refused held None = None
hop_of_refused held (Some destination) = hop_address held destination

abbrev pub refused_hop : Emitter → Option Ipv4Address
refused_hop out = hop_of_refused out.held out.refused
