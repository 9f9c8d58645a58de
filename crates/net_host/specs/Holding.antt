-- What a host holds of the lease of its DHCP client.
use Rattle.std.specs.Prelude.{List, [], Option, Some, None, if◌then◌else◌}
use Rattle.std.specs.Option.{option_map}
use Rattle.net_wire.specs.declared.address.IpAddress.{IpAddress}
use Rattle.net_wire.specs.declared.address.Ipv4Cidr.{Ipv4Cidr}
use Rattle.dhcp_client.specs.Client.{Client}
use Rattle.dhcp_client.specs.Event.{Configuration, configuration_of}
use Rattle.host_model.specs.declared.held.Held.{Held}
use Rattle.dns_client.specs.Client.{client_of}
use Rattle.host_model.specs.Queries.{first_servers}
use Rattle.net_host.specs.declared.host.Host.{Host}
use Rattle.net_host.specs.Following.{Holding}

abbrev pub held_in : Configuration → Held
held_in config = record { address = config.address; router = config.router }

-- what is held once the client was asked whether its configuration changed
abbrev pub held_after : Client → Option Held → Option Held
held_after client held = if client.changed then option_map held_in (configuration_of client) else held

-- and so the servers that are asked
abbrev pub served_in : Option Configuration → List IpAddress
served_in None = []
served_in (Some config) = first_servers config.dns_servers

abbrev pub served_after : Client → List IpAddress → List IpAddress
served_after client servers = if client.changed then served_in (configuration_of client) else servers

abbrev pub host_lease : Host → Option Ipv4Cidr
host_lease host = option_map (λ held. held.address) host.out.held

-- what a host holds
abbrev pub host_holding : Host → Holding
host_holding host = record { held = host.out.held; servers = (client_of host.dns).servers }

abbrev pub holding_after : Client → Holding → Holding
holding_after client holding =
    record { held = held_after client holding.held; servers = served_after client holding.servers }
