-- What the fields of a server stand for.
use Rattle.std.specs.Prelude.{◌≡◌, Some, None}
use Rattle.managed.specs.SortedMap.{pairs, capacity, IsSortedMap}
use Rattle.managed.specs.SlotMap.{elements_of, places_of}
use Rattle.lease_server.specs.Holders.{AreHolders, holders_in}
use Rattle.lease_server.specs.State.{ServerState, hardware_cmp}
use Rattle.lease_server.specs.Values.{values_of, refused}
use Rattle.lease_server.specs.declared.server.Server.TheInside.{Inside}

abbrev pub state_inside : Inside → ServerState
state_inside server = record {
  values = values_of server.values;
  holders = holders_in (pairs server.clients) (elements_of server.leases);
  last = server.last;
}

pub record IsServing (server : Inside) : Type 0 where
  pub checked : refused (values_of server.values) ≡ None
  pub sorted : IsSortedMap hardware_cmp server.clients
  pub places : capacity server.clients ≡ Some server.values.count
  pub holders : AreHolders (values_of server.values) (pairs server.clients) (elements_of server.leases) (places_of server.leases)
