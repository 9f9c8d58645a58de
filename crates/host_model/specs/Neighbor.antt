-- The hardware address of the next hop of a datagram (RFC 1122, section 3.3.1), by what ARP packets told (RFC
-- 826).
use Rattle.std.specs.Prelude.{ℕ, ◌-◌, ◌/◌, ◌^◌, ◌==◌, nat_lt, Bool, if◌then◌else◌}
use Rattle.std.specs.Prelude.{List, [], ◌∷◌, map, Option, Some, None, replicate}
use Rattle.std.specs.Int.{from_be_bytes, w32}
use Rattle.net_wire.specs.declared.address.EthernetAddress.{EthernetAddress}
use Rattle.net_wire.specs.declared.address.Ipv4Address.{Ipv4Address}
use Rattle.net_wire.specs.declared.arp.ArpRepr.{ArpRepr}
use Rattle.net_wire.specs.Arp.{arriving_arp}
use Rattle.dhcp_client.specs.Hearing.{same_address}
use Rattle.dhcp_client.specs.Messages.{limited_broadcast}
use Rattle.host_model.specs.declared.held.Held.{Held}
use Rattle.host_model.specs.declared.neighbor.Neighbor.{Neighbor}
use Rattle.host_model.specs.Script.{Arrival, Tick, Reset, Frame, Query, Event}
use Rattle.host_model.specs.Settings.{Settings}
use Rattle.host_model.specs.History.{Entry}
use Rattle.host_model.specs.Lease.{held_before}

-- all stations of the link
abbrev pub ethernet_broadcast : EthernetAddress
ethernet_broadcast = record { 0 = replicate 6 255 }

-- the ARP packet that counts of what arrives at a station
abbrev pub told_to : EthernetAddress → Arrival → Option ArpRepr
told_to hardware Tick = None
told_to hardware Reset = None
told_to hardware (Frame bytes) = arriving_arp hardware bytes
told_to hardware (Query type_ name) = None

abbrev pub told_by : Settings → Arrival → Option ArpRepr
told_by settings arrival = told_to settings.hardware arrival

-- what a packet tells at a time of the station with an address, and what was known before where it tells
-- nothing of it
abbrev pub or_told : Ipv4Address → ℕ → Option ArpRepr → Option Neighbor → Option Neighbor
or_told address at None known = known
or_told address at (Some arp) known =
    if same_address arp.source_protocol_addr address
    then Some (record { hardware = arp.source_hardware_addr; since = at })
    else known

-- the station with an address, by the last packet of it among the events, newest first
abbrev pub neighbor_in : Settings → List Event → Ipv4Address → Option Neighbor
neighbor_in settings [] address = None
neighbor_in settings (event ∷ events) address =
    or_told address event.at (told_by settings event.arrival) (neighbor_in settings events address)

-- what was told is believed for less than 60 seconds
abbrev pub hop_of : ℕ → Option Neighbor → Option EthernetAddress
hop_of at None = None
hop_of at (Some neighbor) = if nat_lt (at - neighbor.since) 60000000 then Some neighbor.hardware else None

-- the first so many bits of an address
abbrev pub front_bits : ℕ → Ipv4Address → ℕ
front_bits bits address = from_be_bytes w32 address.0 / 2 ^ (32 - bits)

abbrev pub is_on_network : Held → Ipv4Address → Bool
is_on_network held destination =
    front_bits held.address.prefix_len destination == front_bits held.address.prefix_len held.address.address

-- the address of the next hop: the destination where it is on the network of the held address, else the
-- router, if there is one; nothing without an address
abbrev pub hop_address : Option Held → Ipv4Address → Option Ipv4Address
hop_address None destination = None
hop_address (Some held) destination = if is_on_network held destination then Some destination else held.router

-- the hardware address that the events tell of an address at a time, if there is an address
abbrev pub known_at : Settings → List Event → ℕ → Option Ipv4Address → Option EthernetAddress
known_at settings events at None = None
known_at settings events at (Some address) = hop_of at (neighbor_in settings events address)

abbrev pub events_of : List Entry → List Event
events_of entries = map (λ entry. entry.event) entries

-- The hop at an event, which itself may tell of it. That of all hosts of the link is all stations of it.
abbrev pub known_hop : Settings → List Entry → Event → Ipv4Address → Option EthernetAddress
known_hop settings before event destination =
    if same_address destination limited_broadcast then Some ethernet_broadcast
    else known_at settings (event ∷ events_of before) event.at
    (hop_address (held_before settings before) destination)
