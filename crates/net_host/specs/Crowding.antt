-- When a host has no place for a station: what was told is believed for less than 60 seconds, and only then a station needs its place.
use Rattle.std.specs.Prelude.{◌≡◌, ℕ, ◌≤◌, List, length, Some, None}
use Rattle.std.specs.List.{AllByRecursion, IsDistinct}
use Rattle.std.specs.Option.{IsSome}
use Rattle.net_wire.specs.declared.address.Ipv4Address.{Ipv4Address}
use Rattle.net_wire.specs.declared.arp.ArpRepr.{ArpRepr}
use Rattle.dhcp_client.specs.Hearing.{same_address}
use Rattle.host_model.specs.History.{Entry}
use Rattle.host_model.specs.Neighbor.{events_of, known_at, told_by}
use Rattle.host_model.specs.Script.{Event}
use Rattle.host_model.specs.Settings.{Settings}

-- of so many stations the events tell an address that is believed at a time
pub record AreKnown (settings : Settings) (events : List Event) (at count : ℕ) : Type 0 where
  pub addresses : List Ipv4Address
  pub many : count ≤ length addresses
  pub different : IsDistinct same_address addresses
  pub known : AllByRecursion (λ address. IsSome (known_at settings events at (Some address))) addresses

-- An event tells of a station that is not known when it comes, while as many others are known as there are places.
pub record IsCrowded (settings : Settings) (before : List Entry) (event : Event) (places : ℕ) : Type 0 where
  pub told : ArpRepr
  pub tells : told_by settings event.arrival ≡ Some told
  pub unknown : known_at settings (events_of before) event.at (Some told.source_protocol_addr) ≡ None
  pub others : AreKnown settings (events_of before) event.at places
