-- What a host relies on in its DNS client, as it polls it.
use Rattle.std.specs.Prelude.{◌≡◌, List, map}
use Rattle.net_wire.specs.declared.address.IpAddress.{IpAddress}
use Rattle.dns_client.specs.Client.{Client, client_of}
use Rattle.host_model.specs.QuerySlots.{Slot}
use Rattle.net_host.specs.declared.host.Host.{Host}
use Rattle.net_host.specs.QueryStanding.{StandAs, standing_in}

-- the queries of a client stand in its slots as those of some history do
pub record AreStanding (client : Client) : Type 0 where
  pub slots : List Slot
  pub slots_are : client.slots ≡ map standing_in slots

-- and those of a host
pub record HoldsQueries (host : Host) : Type 0 where
  pub servers : List IpAddress
  pub slots : List Slot
  pub stand : StandAs servers slots (client_of host.dns) host.out.numbers
