-- What the next hop of a datagram goes by: the first bits of addresses (RFC 4632, section 3.1), and the last
-- packet that told of a station (RFC 826).
use Rattle.std.specs.Prelude.{◌≡◌, ◌≢◌, ◌⊎◌, ◌↔◌, ℕ, ◌-◌, ◌/◌, ◌%◌, ◌^◌, ◌<◌, ◌≤◌}
use Rattle.std.specs.Prelude.{IsTrue, List, ◌∷◌, ◌++◌, Some, slice_index}
use Rattle.std.specs.List.{AllByRecursion}
use Rattle.net_wire.specs.declared.address.EthernetAddress.{EthernetAddress}
use Rattle.net_wire.specs.declared.address.Ipv4Address.{Ipv4Address}
use Rattle.net_wire.specs.declared.arp.ArpRepr.{ArpRepr}
use Rattle.host_model.specs.declared.held.Held.{Held}
use Rattle.dhcp_client.specs.Messages.{limited_broadcast}
use Rattle.host_model.specs.Script.{Event}
use Rattle.host_model.specs.Settings.{Settings}
use Rattle.host_model.specs.History.{Entry}
use Rattle.host_model.specs.Lease.{held_before}
use Rattle.host_model.specs.Neighbor.{ethernet_broadcast, events_of, told_by, neighbor_in}
use Rattle.host_model.specs.Neighbor.{hop_address, hop_of, is_on_network, known_hop}

-- the four numbers of an address are bytes
abbrev pub IsOfBytes : Ipv4Address → Type 0
IsOfBytes address = (place : ℕ) → slice_index address.0 place < 256

-- a bit of an address, by its place from the front: the first bit of a byte is worth most
abbrev pub bit_of : Ipv4Address → ℕ → ℕ
bit_of address place = slice_index address.0 (place / 8) / 2 ^ (7 - place % 8) % 2

-- a destination begins with the bits of the held address's prefix
abbrev pub HasPrefix : Held → Ipv4Address → Type 0
HasPrefix held destination = (place : ℕ) → place < held.address.prefix_len
    → bit_of destination place ≡ bit_of held.address.address place

-- on the network are just the addresses that begin with its prefix
abbrev pub NetworksArePrefixes : Type 0
NetworksArePrefixes = (held : Held) (destination : Ipv4Address) → held.address.prefix_len ≤ 32
    → IsOfBytes held.address.address → IsOfBytes destination
    → IsTrue (is_on_network held destination) ↔ HasPrefix held destination

-- a packet counts that an event brings, and its sender has the address
pub record TellsOf (settings : Settings) (address : Ipv4Address) (event : Event) (told : ArpRepr)
    : Type 0 where
  pub counts : told_by settings event.arrival ≡ Some told
  pub sender : told.source_protocol_addr ≡ address

abbrev pub IsSilentOn : Settings → Ipv4Address → Event → Type 0
IsSilentOn settings address event = (told : ArpRepr) → TellsOf settings address event told → ⊥

-- A station has an address and a hardware address at a time, by events, newest first: one of them told so,
-- less than 60 seconds before, and no newer one told of the address.
pub record IsNeighbor (settings : Settings) (events : List Event) (at : ℕ) (address : Ipv4Address)
    (hardware : EthernetAddress) : Type 0 where
  pub newer : List Event
  pub event : Event
  pub older : List Event
  pub told : ArpRepr
  pub split : events ≡ newer ++ event ∷ older
  pub silent : AllByRecursion (IsSilentOn settings address) newer
  pub tells : TellsOf settings address event told
  pub hardware_is : told.source_hardware_addr ≡ hardware
  -- in microseconds; a time before the event's counts as its own
  pub young : at - event.at < 60000000

-- the hop at an address is known just where a station has told of it
abbrev pub HopsAreNeighbors : Type 0
HopsAreNeighbors =
    (settings : Settings) (events : List Event) (at : ℕ) (address : Ipv4Address) (hardware : EthernetAddress)
    → (hop_of at (neighbor_in settings events address) ≡ Some hardware)
    ↔ IsNeighbor settings events at address hardware

-- all hosts of the link are reached at all stations
pub record IsToAll (destination : Ipv4Address) (hardware : EthernetAddress) : Type 0 where
  pub destination_is : destination ≡ limited_broadcast
  pub hardware_is : hardware ≡ ethernet_broadcast

-- any other destination is reached at a station that told, be it the destination or the router
pub record IsByNeighbor (settings : Settings) (before : List Entry) (event : Event)
    (destination : Ipv4Address) (hardware : EthernetAddress) : Type 0 where
  pub other : destination ≢ limited_broadcast
  pub address : Ipv4Address
  pub next : hop_address (held_before settings before) destination ≡ Some address
  pub neighbor : IsNeighbor settings (event ∷ events_of before) event.at address hardware

-- the hop of a destination at an event is known just in these two ways
abbrev pub HopsAreKnown : Type 0
HopsAreKnown =
    (settings : Settings) (before : List Entry) (event : Event)
    (destination : Ipv4Address) (hardware : EthernetAddress)
    → (known_hop settings before event destination ≡ Some hardware)
    ↔ (IsToAll destination hardware ⊎ IsByNeighbor settings before event destination hardware)
