-- The stations of the link that the host knows (RFC 826, section "Packet Reception").
use Rattle.std.specs.Prelude.{◌≡◌, ℕ, ◌-◌, ◌<◌, ◌≤◌, ◌==◌, nat_lt, List, [], ◌∷◌, length, Option, Some, None, ⊤}
use Rattle.std.specs.Prelude.{Bool, true, if◌then◌else◌}
use Rattle.std.specs.BTreeMap.{is_at}
use Rattle.std.specs.List.Sorted.{IsStrictlySortedBy}
use Rattle.std.specs.Map.{keys_of, remove_entry}
use Rattle.std.specs.Option.{is_some}
use Rattle.std.specs.declared.cmp.Ordering.{Ordering}
use Rattle.std.specs.Cmp.Lexicographic.{slice_cmp}
use Rattle.std.specs.Ordering.{nat_cmp}
use Rattle.managed.specs.SortedMap.{value_at, with_pair}
use Rattle.net_wire.specs.declared.address.Ipv4Address.{Ipv4Address}
use Rattle.net_wire.specs.declared.arp.ArpRepr.{ArpRepr}
use Rattle.host_model.specs.declared.neighbor.Neighbor.{Neighbor}
use Rattle.host_model.specs.Script.{Event}
use Rattle.host_model.specs.Settings.{Settings}
use Rattle.host_model.specs.Neighbor.{neighbor_in}

-- the stations by rising address, and the number of places for them
pub record Table : Type 0 where
  pub stations : List (Ipv4Address × Neighbor)
  pub places : ℕ

-- addresses in the order of their bytes
abbrev pub address_cmp : Ipv4Address → Ipv4Address → Ordering
address_cmp one other = slice_cmp nat_cmp one.0 other.0

abbrev pub neighbor_with : Table → Ipv4Address → Option Neighbor
neighbor_with table address = value_at address_cmp table.stations address

-- what was told is believed for less than 60 seconds
abbrev pub is_believed : ℕ → Neighbor → Bool
is_believed at neighbor = nat_lt (at - neighbor.since) 60000000

-- what is known of a station, while it is believed
abbrev pub still : ℕ → Option Neighbor → Option Neighbor
still at None = None
still at (Some neighbor) = if is_believed at neighbor then Some neighbor else None

-- the first station of which what was told is not believed any more
abbrev pub first_old : ℕ → List (Ipv4Address × Neighbor) → Option Ipv4Address
first_old at [] = None
first_old at (station ∷ stations) = if is_believed at station.1 then first_old at stations else Some station.0

-- a station may be put down: in a free place, or in its own
abbrev pub is_ready : Ipv4Address → Table → Bool
is_ready address table =
    if length table.stations == table.places then is_some (neighbor_with table address) else true

-- or in that of a station of which what was told is not believed any more
abbrev pub has_place : Ipv4Address → ℕ → Table → Bool
has_place address at table = if is_ready address table then true else is_some (first_old at table.stations)

abbrev pub without : Option Ipv4Address → Table → Table
without None table = table
without (Some address) table = record table { stations = remove_entry (is_at (address_cmp address)) table.stations }

-- once such a station gave its place up, where no other place is left
abbrev pub with_room : Ipv4Address → ℕ → Table → Table
with_room address at table = if is_ready address table then table else without (first_old at table.stations) table

abbrev pub told_at : ℕ → ArpRepr → Neighbor
told_at at arp = record { hardware = arp.source_hardware_addr; since = at }

-- once a station was told of
abbrev pub with_station : Ipv4Address → Neighbor → Table → Table
with_station address neighbor table =
    record table { stations = with_pair address_cmp table.stations address neighbor }

-- once a packet told at a time of the station that sent it
abbrev pub learned : ArpRepr → ℕ → Table → Table
learned arp at table =
    with_station arp.source_protocol_addr (told_at at arp) (with_room arp.source_protocol_addr at table)

-- once something arrived at a time that may have told of a station
abbrev pub table_after : Option ArpRepr → ℕ → Table → Table
table_after None at table = table
table_after (Some arp) at table = learned arp at table

abbrev pub pair_count : Table → ℕ
pair_count table = length table.stations

abbrev pub place_count : Table → ℕ
place_count table = table.places

abbrev pub no_pairs : Table → Type 0
no_pairs table = table.stations ≡ []

-- there is a place for one station more
abbrev pub HasRoom : Table → Type 0
HasRoom table = pair_count table < place_count table

-- there is a place for the station that a packet of an event tells of, if there is one
abbrev pub place_for : Option ArpRepr → ℕ → Table → Bool
place_for None at table = true
place_for (Some arp) at table = has_place arp.source_protocol_addr at table

-- no event of a list, newest first, came later
abbrev pub IsSince : List Event → ℕ → Type 0
IsSince [] at = ⊤
IsSince (event ∷ events) at = event.at ≤ at

-- The stations are those of a list of events, newest first, as far as they are still believed at any time from the newest on.
pub record TableAgrees (settings : Settings) (events : List Event) (table : Table) : Type 0 where
  pub finds : (address : Ipv4Address) (at : ℕ) → IsSince events at
      → still at (neighbor_with table address) ≡ still at (neighbor_in settings events address)
  pub sorted : IsStrictlySortedBy address_cmp (keys_of table.stations)
