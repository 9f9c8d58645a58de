-- The frames that the host sends in an event, in their order (RFC 826; RFC 2131, section 4.1).
use Rattle.std.specs.Prelude.{◌==◌, ◌&&◌, Bool, List, [], ◌∷◌, ◌++◌, Option, Some, None, map, replicate, if◌then◌else◌}
use Rattle.net_wire.specs.declared.address.EthernetAddress.{EthernetAddress}
use Rattle.net_wire.specs.declared.address.Ipv4Address.{Ipv4Address}
use Rattle.net_wire.specs.declared.arp.ArpRepr.{ArpRepr}
use Rattle.net_wire.specs.Datagram.{Datagram}
use Rattle.net_wire.specs.DnsMessage.{query_bytes}
use Rattle.dhcp_client.specs.Hearing.{same_address}
use Rattle.dns_client.specs.Looks.{port_of}
use Rattle.host_model.specs.declared.held.Held.{Held}
use Rattle.host_model.specs.declared.words.EventWords.{EventWords}
use Rattle.host_model.specs.Script.{Event}
use Rattle.host_model.specs.Settings.{Settings}
use Rattle.host_model.specs.History.{Entry, SentMessage, Transmission}
use Rattle.host_model.specs.Lease.{held_before}
use Rattle.host_model.specs.Named.{named_message}
use Rattle.host_model.specs.Neighbor.{ethernet_broadcast, hop_address, known_hop, told_by}
use Rattle.host_model.specs.Queries.{looks_at}
use Rattle.host_model.specs.QueryLooks.{Ask, SentAsk, Looks}

-- a frame that a row lists: an ARP reply or request to a station or to all of them, that of a DHCP message, or
-- that of a query
pub data Listed : Type 0 where
  ArpReply : EthernetAddress → ArpRepr → Listed
  ArpRequest : EthernetAddress → ArpRepr → Listed
  Dhcp : SentMessage → Listed
  Dns : SentAsk → Listed

-- the reply to a request for the held address, to the station that asked
abbrev pub reply_to : EthernetAddress → Held → ArpRepr → ArpRepr
reply_to hardware held asked = record {
  operation = 2;
  source_hardware_addr = hardware;
  source_protocol_addr = held.address.address;
  target_hardware_addr = asked.source_hardware_addr;
  target_protocol_addr = asked.source_protocol_addr;
}

abbrev pub asks_for : Held → ArpRepr → Bool
asks_for held arp = (arp.operation == 1) && same_address arp.target_protocol_addr held.address.address

abbrev pub replies : EthernetAddress → Option Held → Option ArpRepr → List Listed
replies hardware None told = []
replies hardware (Some held) None = []
replies hardware (Some held) (Some arp) =
    if asks_for held arp then ArpReply arp.source_hardware_addr (reply_to hardware held arp) ∷ [] else []

-- the request for the station with an address, from the held address to all stations
abbrev pub request_for : EthernetAddress → Held → Ipv4Address → ArpRepr
request_for hardware held address = record {
  operation = 1;
  source_hardware_addr = hardware;
  source_protocol_addr = held.address.address;
  target_hardware_addr = record { 0 = replicate 6 0 };
  target_protocol_addr = address;
}

abbrev pub requests : EthernetAddress → Option Held → Option Ipv4Address → List Listed
requests hardware None address = []
requests hardware (Some held) None = []
requests hardware (Some held) (Some address) =
    ArpRequest ethernet_broadcast (request_for hardware held address) ∷ []

-- the frame of a message where its hop is known; else, if the hop has an address, a request for that
abbrev pub sent_or_asked : EthernetAddress → Option Held → Transmission → Option EthernetAddress → List Listed
sent_or_asked hardware held transmission (Some hop) = Dhcp (record { transmission = transmission; hop = hop }) ∷ []
sent_or_asked hardware held transmission None = requests hardware held (hop_address held transmission.destination)

abbrev pub dhcp_frames : EthernetAddress → Option Held → (Ipv4Address → Option EthernetAddress) → Option Transmission → List Listed
dhcp_frames hardware held hop None = []
dhcp_frames hardware held hop (Some transmission) =
    sent_or_asked hardware held transmission (hop transmission.destination)

-- the address that the DHCP message of an event asked for
abbrev pub asked_unless : Option EthernetAddress → Option Ipv4Address → Option Ipv4Address
asked_unless (Some hop) address = None
asked_unless None address = address

abbrev pub dhcp_asked : Option Held → (Ipv4Address → Option EthernetAddress) → Option Transmission → Option Ipv4Address
dhcp_asked held hop None = None
dhcp_asked held hop (Some transmission) =
    asked_unless (hop transmission.destination) (hop_address held transmission.destination)

-- the address of the hop that ended the looks at the queries
abbrev pub hop_of_unknown : Option Held → Option Ipv4Address → Option Ipv4Address
hop_of_unknown held None = None
hop_of_unknown held (Some destination) = hop_address held destination

-- an address that was not asked for in this event
abbrev pub not_asked : Option Ipv4Address → Option Ipv4Address → Option Ipv4Address
not_asked asked None = None
not_asked None (Some address) = Some address
not_asked (Some asked) (Some address) = if same_address asked address then None else Some address

-- the frames of the messages of queries, and a request for the hop that is not known, once for one address
abbrev pub dns_frames : EthernetAddress → Option Held → Option Ipv4Address → Looks → List Listed
dns_frames hardware held asked looks =
    map Dns looks.asks ++ requests hardware held (not_asked asked (hop_of_unknown held looks.unknown))

-- the datagram of a query's message (RFC 1035, section 4.2.1)
abbrev pub query_datagram : Ask → Datagram
query_datagram ask = record {
  source = ask.from;
  destination = ask.to;
  source_port = ask.request.port;
  destination_port = port_of ask.request.mdns;
  payload = query_bytes ask.request.id (record { name = ask.request.name; type_ = ask.request.type_ });
}

-- The frames that the link and the lease lead to in an event: the reply to what arrived, if it asked for the
-- held address, and what the DHCP message leads to. What is held is what was held when the event came.
abbrev pub lease_frames : Settings → List Entry → Event → EventWords → List Listed
lease_frames settings before event words =
    replies settings.hardware (held_before settings before) (told_by settings event.arrival)
    ++ dhcp_frames settings.hardware (held_before settings before) (known_hop settings before event)
    (named_message settings before event words)

-- and those that the queries lead to
abbrev pub query_frames : Settings → List Entry → Event → EventWords → List Listed
query_frames settings before event words =
    dns_frames settings.hardware (held_before settings before)
    (dhcp_asked (held_before settings before) (known_hop settings before event)
    (named_message settings before event words))
    (looks_at settings before event words)

-- the frames of an event
abbrev pub frames_of : Settings → List Entry → Event → EventWords → List Listed
frames_of settings before event words =
    lease_frames settings before event words ++ query_frames settings before event words
