-- What the client tells its host of its configuration.
use Rattle.std.specs.Prelude.{ℕ, List, Option, Some, None, if◌then◌else◌}
use Rattle.std.specs.Option.{option_copied}
use Rattle.net_wire.specs.declared.address.Ipv4Address.{Ipv4Address}
use Rattle.net_wire.specs.declared.address.Ipv4Cidr.{Ipv4Cidr}
use Rattle.dhcp_client.specs.declared.event.Event as declared
use Rattle.dhcp_client.specs.declared.event.Event.TheVariants as variant
use Rattle.dhcp_client.specs.declared.state.ClientState.{ClientState}
use Rattle.dhcp_client.specs.declared.state.ClientState.TheVariants.{Discovering, Requesting, Renewing}
use Rattle.dhcp_client.specs.declared.state.ServerInfo.{ServerInfo}
use Rattle.dhcp_client.specs.Client.{Client}

pub record Configuration : Type 0 where
  pub server : ServerInfo
  pub address : Ipv4Cidr
  pub router : Option Ipv4Address
  pub dns_servers : List Ipv4Address
  pub packet : Option (List ℕ)

-- what a lease with these name servers gives, beside the whole buffer for received packets; none without a
-- lease
abbrev pub configuration_in : ClientState → List Ipv4Address → Option (List ℕ) → Option Configuration
configuration_in (Discovering retry_at) servers packet = None
configuration_in (Requesting retry_at retry server requested_ip) servers packet = None
configuration_in (Renewing lease) servers packet = Some (record {
  server = lease.server;
  address = lease.address;
  router = lease.router;
  dns_servers = servers;
  packet = packet;
})

abbrev pub configuration_of : Client → Option Configuration
configuration_of client = configuration_in client.state client.dns_servers client.packet

-- an event gives the configuration, or none
abbrev pub told_by : declared.Event → Option Configuration
told_by variant.Deconfigured = None
told_by (variant.Configured config) = Some (record {
  server = config.server;
  address = config.address;
  router = config.router;
  dns_servers = config.dns_servers.now;
  packet = option_copied config.packet;
})

-- there is an event exactly where the configuration changed since the last one
abbrev pub event_of : Client → Option (Option Configuration)
event_of client = if client.changed then Some (configuration_of client) else None
