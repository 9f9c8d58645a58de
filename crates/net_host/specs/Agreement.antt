-- The one relation between the state of a host and the history of its events: nothing above this crate speaks
-- of a state.
use Rattle.std.specs.Prelude.{◌≡◌, List}
use Rattle.dns_client.specs.Client.{client_of}
use Rattle.host_model.specs.Settings.{Settings}
use Rattle.host_model.specs.History.{Entry}
use Rattle.host_model.specs.Anchor.{anchor_before}
use Rattle.host_model.specs.Lease.{held_before}
use Rattle.host_model.specs.Neighbor.{events_of}
use Rattle.net_host.specs.declared.host.Host.{Host}
use Rattle.net_host.specs.Following.{AgreesUnder}
use Rattle.net_host.specs.Holding.{host_holding}
use Rattle.net_host.specs.Moments.{last_moment}
use Rattle.net_host.specs.Neighbors.{TableAgrees}
use Rattle.net_host.specs.QueryStanding.{QueriesAgree}

-- the host agrees with the entries so far
pub record AgreesWithHistory (settings : Settings) (before : List Entry) (host : Host) : Type 0 where
  pub hardware : host.out.hardware ≡ settings.hardware
  pub ip_mtu : host.ip_mtu ≡ settings.ip_mtu
  pub last : host.last ≡ last_moment before
  pub held : host.out.held ≡ held_before settings before
  pub neighbors : TableAgrees settings (events_of before) host.out.neighbors
  pub dhcp : AgreesUnder settings before (anchor_before settings before) (host_holding host) host.dhcp
  pub queries : QueriesAgree settings before (client_of host.dns) host.out.numbers host.queries
