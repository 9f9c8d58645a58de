-- What a host makes of what an event brings.
use Rattle.std.specs.Prelude.{◌++◌, Option, Some, None, ⊤, if◌then◌else◌}
use Rattle.net_wire.specs.declared.error.Context.{Context}
use Rattle.net_wire.specs.declared.arp.ArpRepr.{ArpRepr}
use Rattle.net_wire.specs.Arrival.{arriving_datagram}
use Rattle.net_wire.specs.Datagram.{Datagram}
use Rattle.net_wire.specs.DhcpRead.{message_at}
use Rattle.dhcp_client.specs.Client.{Client, after_reset}
use Rattle.dhcp_client.specs.Heard.{IsShort}
use Rattle.dhcp_client.specs.Hearing.{after_message, ear_of}
use Rattle.host_model.specs.Hearing.{heard_by, is_for_client}
use Rattle.host_model.specs.Script.{Arrival, Tick, Reset, Frame, Query}
use Rattle.net_host.specs.declared.emitter.Emitter.{Emitter}
use Rattle.net_host.specs.Emitter.{reply_sent}
use Rattle.net_host.specs.Neighbors.{learned}

-- a datagram that goes from the port of servers to its own
abbrev pub after_datagram : Context → Option Datagram → Client → Client
after_datagram cx None client = client
after_datagram cx (Some datagram) client =
    if is_for_client client.settings datagram
    then after_message client cx datagram.source datagram.payload (message_at datagram.payload)
    else client

-- a reset, and the datagram that a frame carries
abbrev pub after_arrival : Context → Arrival → Client → Client
after_arrival cx Tick client = client
after_arrival cx Reset client = after_reset client
after_arrival cx (Frame bytes) client = after_datagram cx (arriving_datagram cx.hardware_addr bytes) client
after_arrival cx (Query type_ name) client = client

-- what is granted in an event is granted for less than 2^32 seconds
abbrev pub IsShortIn : Context → Arrival → Client → Type 0
IsShortIn cx Tick client = ⊤
IsShortIn cx Reset client = ⊤
IsShortIn cx (Frame bytes) client = IsShort (heard_by (ear_of client cx) (arriving_datagram cx.hardware_addr bytes))
IsShortIn cx (Query type_ name) client = ⊤

-- the neighbour that an ARP packet tells of is noted with the time of the event, and a request for the held
-- address gets its reply
abbrev pub after_told : Option ArpRepr → Emitter → Emitter
after_told None out = out
after_told (Some arp) out = record out {
  neighbors = learned arp out.at out.neighbors;
  sent = out.sent ++ reply_sent out.hardware out.held arp;
}
