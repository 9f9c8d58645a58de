-- The messages of the client (RFC 2131, section 4.4.1 and table 5), and the datagrams that carry them
-- (section 4.1).
use Rattle.std.specs.Prelude.{ℕ, ◌+◌, ◌-◌, false, List, Option, Some, None, length, replicate}
use Rattle.net_wire.specs.declared.address.EthernetAddress.{EthernetAddress}
use Rattle.net_wire.specs.declared.address.Ipv4Address.{Ipv4Address}
use Rattle.net_wire.specs.declared.dhcp.DhcpMessageType.{DhcpMessageType}
use Rattle.net_wire.specs.declared.dhcp.DhcpMessageType.TheVariants.{Discover, Request}
use Rattle.net_wire.specs.declared.dhcp.DhcpRepr.{DhcpRepr}
use Rattle.net_wire.specs.declared.ipv4.Ipv4Repr.{Ipv4Repr}
use Rattle.net_wire.specs.declared.protocol.IpProtocol.TheVariants.{Udp}
use Rattle.net_wire.specs.declared.udp.UdpRepr.{UdpRepr}
use Rattle.net_wire.specs.DhcpBytes.{message_bytes}
use Rattle.net_wire.specs.DhcpMessage.{Message, OptionValue, message_of}

-- a message and the headers that it is sent behind
pub record Outgoing : Type 0 where
  pub ip : Ipv4Repr
  pub udp : UdpRepr
  pub message : Message

-- a message as it is given to an emitter
abbrev pub outgoing_of : Ipv4Repr → UdpRepr → DhcpRepr → Outgoing
outgoing_of ip udp dhcp = record { ip = ip; udp = udp; message = message_of dhcp }

-- no address (RFC 1122, section 3.2.1.3), and all hosts of the link (RFC 919, section 7)
abbrev pub unspecified : Ipv4Address
unspecified = record { 0 = replicate 4 0 }

abbrev pub limited_broadcast : Ipv4Address
limited_broadcast = record { 0 = replicate 4 255 }

-- A message of the client: its type, id, the address that it has, its hardware address, the server and the
-- address that it requests, the greatest message size, the request list and the caller's options. The size
-- leaves room for the longest IPv4 header and the UDP header, 60 and 8 bytes.
abbrev pub client_message : DhcpMessageType → Ipv4Address → Option Ipv4Address → Option Ipv4Address
    → EthernetAddress → ℕ → List ℕ → List OptionValue → ℕ → Message
client_message message_type client_ip server requested hardware_addr ip_mtu parameters options id = record {
  message_type = message_type;
  transaction_id = id;
  secs = 0;
  broadcast = false;
  client_ip = client_ip;
  your_ip = unspecified;
  server_ip = unspecified;
  relay_agent_ip = unspecified;
  client_hardware_address = hardware_addr;
  client_identifier = Some hardware_addr;
  server_identifier = server;
  router = None;
  subnet_mask = None;
  requested_ip = requested;
  max_size = Some (ip_mtu - 68);
  lease_duration = None;
  renew_duration = None;
  rebind_duration = None;
  parameter_request_list = Some parameters;
  dns_servers = None;
  additional_options = options;
}

-- a discover
abbrev pub discover_message : EthernetAddress → ℕ → List ℕ → List OptionValue → ℕ → Message
discover_message = client_message Discover unspecified None None

-- a request of the address that a server offered
abbrev pub request_message : Ipv4Address → Ipv4Address → EthernetAddress → ℕ → List ℕ → List OptionValue → ℕ
    → Message
request_message server requested = client_message Request unspecified (Some server) (Some requested)

-- a renewal of an address, which names neither (RFC 2131, section 4.3.2)
abbrev pub renewal_message : Ipv4Address → EthernetAddress → ℕ → List ℕ → List OptionValue → ℕ → Message
renewal_message address = client_message Request address None None

-- a message between two addresses
abbrev pub outgoing_between : Ipv4Address → Ipv4Address → ℕ → ℕ → Message → Outgoing
outgoing_between source destination client_port server_port message = record {
  ip = record {
    src_addr = source;
    dst_addr = destination;
    next_header = Udp;
    payload_len = length (message_bytes message) + 8;
    hop_limit = 64;
  };
  udp = record { src_port = client_port; dst_port = server_port };
  message = message;
}

-- a message from a client that has no address to all servers of the link
abbrev pub broadcast_outgoing : ℕ → ℕ → Message → Outgoing
broadcast_outgoing = outgoing_between unspecified limited_broadcast
