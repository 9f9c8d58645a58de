-- What an event asks of a server: a message of a DHCP client (RFC 2131, section 4.1), or an ARP request for
-- the server's address (RFC 826).
use Rattle.std.specs.Prelude.{ℕ, ◌&&◌, ◌==◌, List, Option, Some, None, if◌then◌else◌}
use Rattle.net_wire.specs.declared.address.EthernetAddress.{EthernetAddress}
use Rattle.net_wire.specs.declared.arp.ArpRepr.{ArpRepr}
use Rattle.net_wire.specs.declared.arrival.Sources.TheVariants.{UnicastOrUnspecified}
use Rattle.net_wire.specs.Arp.{arriving_arp}
use Rattle.net_wire.specs.Arrival.{carried_datagram}
use Rattle.net_wire.specs.Datagram.{Datagram}
use Rattle.net_wire.specs.DhcpMessage.{Message}
use Rattle.net_wire.specs.DhcpRead.{message_at}
use Rattle.host_model.specs.declared.held.Held.{Held}
use Rattle.host_model.specs.Frames.{asks_for}
use Rattle.host_model.specs.Script.{Arrival, Tick, Reset, Frame, Query}
use Rattle.lease_server.specs.Values.{Values}

pub data Asked : Type 0 where
  ByDhcp : Message → Asked
  ByArp : ArpRepr → Asked
  Nothing : Asked

-- the message in a datagram from the port of clients, 68, to that of servers, 67
abbrev pub request_of : Option Datagram → Option Message
request_of None = None
request_of (Some datagram) =
    if (datagram.source_port == 68) && (datagram.destination_port == 67) then message_at datagram.payload
    else None

-- and in a frame to a station, also from a client that has no address yet
abbrev pub request_in : EthernetAddress → List ℕ → Option Message
request_in hardware frame = request_of (carried_datagram UnicastOrUnspecified hardware frame)

-- the server's address, as one that a host holds
abbrev pub own_address : Values → Held
own_address values = record {
  address = record { address = values.address; prefix_len = values.prefix_len };
  router = values.router;
}

-- a packet that counts, where it is a request for the server's address
abbrev pub arp_request_of : Values → Option ArpRepr → Option ArpRepr
arp_request_of values None = None
arp_request_of values (Some arp) = if asks_for (own_address values) arp then Some arp else None

abbrev pub arp_request_in : Values → List ℕ → Option ArpRepr
arp_request_in values frame = arp_request_of values (arriving_arp values.hardware frame)

abbrev pub asked_by : Option Message → Option ArpRepr → Asked
asked_by (Some request) arp = ByDhcp request
asked_by None (Some arp) = ByArp arp
asked_by None None = Nothing

-- what a frame asks
abbrev pub asked_in : Values → List ℕ → Asked
asked_in values frame = asked_by (request_in values.hardware frame) (arp_request_in values frame)

-- what an event asks; only frames ask
abbrev pub asked_at : Values → Arrival → Asked
asked_at values Tick = Nothing
asked_at values Reset = Nothing
asked_at values (Query type_ name) = Nothing
asked_at values (Frame bytes) = asked_in values bytes
