-- A DHCP message as a value, without where its parts lie in memory (RFC 2131, section 2; RFC 2132).
use Rattle.std.specs.Prelude.{ℕ, Bool, List, Option, map}
use Rattle.std.specs.Option.{option_map}
use Rattle.net_wire.specs.declared.address.EthernetAddress.{EthernetAddress}
use Rattle.net_wire.specs.declared.address.Ipv4Address.{Ipv4Address}
use Rattle.net_wire.specs.declared.dhcp.DhcpMessageType.{DhcpMessageType}
use Rattle.net_wire.specs.declared.dhcp.DhcpOption.{DhcpOption}
use Rattle.net_wire.specs.declared.dhcp.DhcpRepr.{DhcpRepr}

-- an option that the caller adds
pub record OptionValue : Type 0 where
  pub kind : ℕ
  pub bytes : List ℕ

-- the fields of a message, in the order of the header, and then its options
pub record Message : Type 0 where
  pub message_type : DhcpMessageType
  pub transaction_id : ℕ
  pub secs : ℕ
  pub broadcast : Bool
  pub client_ip : Ipv4Address
  pub your_ip : Ipv4Address
  pub server_ip : Ipv4Address
  pub relay_agent_ip : Ipv4Address
  pub client_hardware_address : EthernetAddress
  pub client_identifier : Option EthernetAddress
  pub server_identifier : Option Ipv4Address
  pub router : Option Ipv4Address
  pub subnet_mask : Option Ipv4Address
  pub requested_ip : Option Ipv4Address
  pub max_size : Option ℕ
  pub lease_duration : Option ℕ
  pub renew_duration : Option ℕ
  pub rebind_duration : Option ℕ
  pub parameter_request_list : Option (List ℕ)
  pub dns_servers : Option (List Ipv4Address)
  pub additional_options : List OptionValue

-- an option without where it lies
abbrev pub option_value : DhcpOption → OptionValue
option_value option = record { kind = option.kind; bytes = option.bytes.now }

-- a message without where its parts lie
abbrev pub message_of : DhcpRepr → Message
message_of repr = record {
  message_type = repr.message_type;
  transaction_id = repr.transaction_id;
  secs = repr.secs;
  broadcast = repr.broadcast;
  client_ip = repr.client_ip;
  your_ip = repr.your_ip;
  server_ip = repr.server_ip;
  relay_agent_ip = repr.relay_agent_ip;
  client_hardware_address = repr.client_hardware_address;
  client_identifier = repr.client_identifier;
  server_identifier = repr.server_identifier;
  router = repr.router;
  subnet_mask = repr.subnet_mask;
  requested_ip = repr.requested_ip;
  max_size = repr.max_size;
  lease_duration = repr.lease_duration;
  renew_duration = repr.renew_duration;
  rebind_duration = repr.rebind_duration;
  parameter_request_list = option_map (λ list. list.now) repr.parameter_request_list;
  dns_servers = option_map (λ servers. servers.items) repr.dns_servers;
  additional_options = map option_value repr.additional_options.now;
}
