-- The message of a reply (RFC 2131, section 4.3, table 3; options by RFC 2132, sections 3.3, 3.5, 3.8, 9.2, 9.6
-- and 9.7).
use Rattle.std.specs.Prelude.{◌≡◌, ℕ, ◌-◌, ◌^◌, ◌<◌, ◌≤◌, List, [], ◌∷◌, length, replicate, Option, Some, None, IfSome}
use Rattle.std.specs.List.{AllByRecursion}
use Rattle.net_wire.specs.declared.address.Ipv4Address.{Ipv4Address}
use Rattle.net_wire.specs.declared.dhcp.DhcpMessageType.{DhcpMessageType}
use Rattle.net_wire.specs.declared.dhcp.DhcpMessageType.TheVariants as kind
use Rattle.net_wire.specs.DhcpBytes.{message_bytes}
use Rattle.net_wire.specs.DhcpMessage.{Message}
use Rattle.net_wire.specs.DhcpRead.{message_at}
use Rattle.net_wire.specs.DhcpReadBack.{HasFour}
use Rattle.lease_server.specs.declared.reply.Reply.{Reply}
use Rattle.lease_server.specs.declared.reply.Reply.TheVariants as reply
use Rattle.lease_server.specs.Values.{Values, address_of, refused}

-- 0.0.0.0
abbrev pub no_address : Ipv4Address
no_address = record { 0 = replicate 4 0 }

-- a prefix as a mask: ones, followed by zeros
abbrev pub mask_of : ℕ → Ipv4Address
mask_of prefix_len = address_of (2 ^ 32 - 2 ^ (32 - prefix_len))

-- the name servers, where there are any
abbrev pub listed : List Ipv4Address → Option (List Ipv4Address)
listed [] = None
listed (server ∷ rest) = Some (server ∷ rest)

-- a refusal: the request's id, client and flag, and the server's identifier
abbrev pub refusing : Values → Message → Message
refusing values request = record {
  message_type = kind.Nak;
  transaction_id = request.transaction_id;
  secs = 0;
  broadcast = request.broadcast;
  client_ip = no_address;
  your_ip = no_address;
  server_ip = no_address;
  relay_agent_ip = no_address;
  client_hardware_address = request.client_hardware_address;
  client_identifier = None;
  server_identifier = Some values.address;
  router = None;
  subnet_mask = None;
  requested_ip = None;
  max_size = None;
  lease_duration = None;
  renew_duration = None;
  rebind_duration = None;
  parameter_request_list = None;
  dns_servers = None;
  additional_options = [];
}

-- an offer or an acknowledgement: besides the address, and what the server was told
abbrev pub granting : Values → Message → DhcpMessageType → Ipv4Address → Message
granting values request type address = record (refusing values request) {
  message_type = type;
  your_ip = address;
  router = values.router;
  subnet_mask = Some (mask_of values.prefix_len);
  lease_duration = Some values.lease_secs;
  dns_servers = listed values.dns_servers;
}

-- the message of a reply; none exactly for silence
abbrev pub reply_message : Values → Message → Reply → Option Message
reply_message values request (reply.Offer address) = Some (granting values request kind.Offer address)
reply_message values request (reply.Ack address) = Some (granting values request kind.Ack address)
reply_message values request reply.Nak = Some (refusing values request)
reply_message values request (reply.Silent why) = None

-- as wide as the fields that they come from, which all values and messages of the host are
pub record AreWide (values : Values) : Type 0 where
  pub address : HasFour values.address
  pub router : IfSome values.router HasFour
  pub lease : values.lease_secs < 2 ^ 32
  pub few : length values.dns_servers ≤ 3
  pub each : AllByRecursion HasFour values.dns_servers

pub record IsWideRequest (request : Message) : Type 0 where
  pub transaction_id : request.transaction_id < 2 ^ 32
  pub client : length request.client_hardware_address.0 ≡ 6

abbrev pub IsWideReply : Reply → Type 0
IsWideReply (reply.Offer address) = HasFour address
IsWideReply (reply.Ack address) = HasFour address
IsWideReply reply.Nak = Unit {0}
IsWideReply (reply.Silent why) = Unit {0}

-- the message of a reply is read from its bytes as that message again
abbrev pub ReadsReplies : Type 0
ReadsReplies = (values : Values) (request : Message) (what : Reply) (message : Message) → refused values ≡ None → AreWide values
    → IsWideRequest request → IsWideReply what → reply_message values request what ≡ Some message
    → message_at (message_bytes message) ≡ Some message
