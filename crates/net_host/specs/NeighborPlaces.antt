-- What the places of a table of neighbours stand for.
use Rattle.std.specs.Prelude.{ℕ, length}
use Rattle.managed.specs.declared.map.ManagedMap.{ManagedMap}
use Rattle.managed.specs.declared.map.ManagedMap.TheVariants.{Borrowed, Owned}
use Rattle.managed.specs.SortedMap.{pairs, IsSortedPlaces}
use Rattle.net_wire.specs.declared.address.Ipv4Address.{Ipv4Address}
use Rattle.host_model.specs.declared.neighbor.Neighbor.{Neighbor}
use Rattle.net_host.specs.Neighbors.{Table, address_cmp}
use Rattle.net_host.specs.declared.neighbors.Neighbors.TheInside.{Inside}

abbrev pub places_in : ManagedMap Ipv4Address Neighbor → ℕ
places_in (Borrowed places) = length places.now
places_in (Owned tree) = 0

abbrev pub table_in : ManagedMap Ipv4Address Neighbor → Table
table_in map = record { stations = pairs map; places = places_in map }

abbrev pub IsTable : ManagedMap Ipv4Address Neighbor → Type 0
IsTable (Borrowed places) = IsSortedPlaces address_cmp places.now
IsTable (Owned tree) = ⊥

abbrev pub table_inside : Inside → Table
table_inside table = table_in table.map

abbrev pub IsTableInside : Inside → Type 0
IsTableInside table = IsTable table.map
