-- What a client makes of a message (RFC 2131, sections 4.4.1 and 4.4.5).
use Rattle.std.specs.Prelude.{ℕ, ◌-◌, ◌*◌, ◌^◌, ◌<◌, ◌==◌, ◌&&◌, ℤ, Bool, true, false, nat_eq, List, [], Option, Some, None}
use Rattle.std.specs.Prelude.{⊤, map, position, if◌then◌else◌}
use Rattle.std.specs.Cmp.Lexicographic.{pointwise}
use Rattle.std.specs.List.{range_with_len}
use Rattle.std.specs.Int.{from_be_bytes, w32}
use Rattle.net_wire.specs.declared.address.EthernetAddress.{EthernetAddress}
use Rattle.net_wire.specs.declared.address.Ipv4Address.{Ipv4Address}
use Rattle.net_wire.specs.declared.address.Ipv4Cidr.{Ipv4Cidr}
use Rattle.net_wire.specs.declared.dhcp.DhcpMessageType.{DhcpMessageType}
use Rattle.net_wire.specs.declared.dhcp.DhcpMessageType.TheVariants.{Offer, Ack, Nak}
use Rattle.net_wire.specs.DhcpMessage.{Message}
use Rattle.net_wire.specs.Time.{instant_after}
use Rattle.net_wire.specs.Unicast.{is_unicast}
use Rattle.dhcp_client.specs.declared.state.Lease.{Lease}
use Rattle.dhcp_client.specs.declared.state.ServerInfo.{ServerInfo}
use Rattle.dhcp_client.specs.Config.{ClientSettings}
use Rattle.dhcp_client.specs.Times.{Spans, spans, lease_span}

-- what an acknowledgement grants: address and prefix, router, name servers, and the times of the lease, from
-- the acknowledgement on
pub record Granted : Type 0 where
  pub address : Ipv4Cidr
  pub router : Option Ipv4Address
  pub dns_servers : List Ipv4Address
  pub times : Spans

-- nothing; an offer of an address by a server; an acknowledgement; a refusal
pub data Heard : Type 0 where
  Nothing : Heard
  AnOffer : ServerInfo → Ipv4Address → Heard
  AnAck : Granted → Heard
  ARefusal : Heard

-- the masks of ones followed by zeros, from none to 32 ones (RFC 950, section 2.1), and how many ones a mask
-- has
abbrev pub mask_number : ℕ → ℕ
mask_number ones = 2 ^ 32 - 2 ^ (32 - ones)

abbrev pub masks : List ℕ
masks = map mask_number (range_with_len 0 33)

abbrev pub prefix_of : Ipv4Address → Option ℕ
prefix_of mask = position (λ number. number == from_be_bytes w32 mask.0) masks

abbrev pub prefix_in : Option Ipv4Address → Option ℕ
prefix_in None = None
prefix_in (Some mask) = prefix_of mask

abbrev pub servers_in : Option (List Ipv4Address) → List Ipv4Address
servers_in None = []
servers_in (Some servers) = servers

abbrev pub server_with : Ipv4Address → Ipv4Address → ServerInfo
server_with address identifier = record { address = address; identifier = identifier }

abbrev pub cidr_with : Ipv4Address → ℕ → Ipv4Cidr
cidr_with address prefix_len = record { address = address; prefix_len = prefix_len }

abbrev pub times_in : ClientSettings → Message → Spans
times_in settings message =
    spans (lease_span settings.max_lease message.lease_duration)
    message.renew_duration message.rebind_duration

abbrev pub granted_by : ClientSettings → Message → ℕ → Granted
granted_by settings message prefix_len = record {
  address = cidr_with message.your_ip prefix_len;
  router = message.router;
  dns_servers = servers_in message.dns_servers;
  times = times_in settings message;
}

-- an offer and an acknowledgement have the address of one host, and an acknowledgement a mask of ones
-- followed by zeros
abbrev pub offer_heard : ServerInfo → Ipv4Address → Heard
offer_heard server address = if is_unicast address then AnOffer server address else Nothing

abbrev pub ack_with : ClientSettings → Message → Option ℕ → Heard
ack_with settings message None = Nothing
ack_with settings message (Some prefix_len) = AnAck (granted_by settings message prefix_len)

abbrev pub ack_heard : ClientSettings → Message → Heard
ack_heard settings message =
    if is_unicast message.your_ip then ack_with settings message (prefix_in message.subnet_mask) else Nothing

abbrev pub refusal_heard : ClientSettings → Heard
refusal_heard settings = if settings.ignore_naks then Nothing else ARefusal

abbrev pub heard_by_type : ClientSettings → ServerInfo → Message → DhcpMessageType → Heard
heard_by_type settings server message Offer = offer_heard server message.your_ip
heard_by_type settings server message Ack = ack_heard settings message
heard_by_type settings server message Nak = refusal_heard settings
heard_by_type settings server message other = Nothing

-- a message counts only with a server identifier
abbrev pub heard_from : ClientSettings → Ipv4Address → Message → Option Ipv4Address → Heard
heard_from settings source message None = Nothing
heard_from settings source message (Some identifier) =
    heard_by_type settings (server_with source identifier) message message.message_type

-- what a client hears by: its hardware address, the id of the message that it sent last, what it was told
pub record Ear : Type 0 where
  pub hardware : EthernetAddress
  pub id : ℕ
  pub settings : ClientSettings

-- and only for this hardware address, and with the id of the message sent last
abbrev pub is_for : Ear → Message → Bool
is_for ear message =
    pointwise nat_eq message.client_hardware_address.0 ear.hardware.0 && (message.transaction_id == ear.id)

abbrev pub is_named : Option Ipv4Address → Bool
is_named None = false
is_named (Some identifier) = true

-- a message of a server to this client is kept, whether it counts in the client's state or not
abbrev pub is_taken : Ear → Message → Bool
is_taken ear message = is_for ear message && is_named message.server_identifier

-- what is heard of a message from an address
abbrev pub heard_in : Ear → Ipv4Address → Message → Heard
heard_in ear source message =
    if is_for ear message then heard_from ear.settings source message message.server_identifier else Nothing

-- and of what is no message
abbrev pub heard_of : Ear → Ipv4Address → Option Message → Heard
heard_of ear source None = Nothing
heard_of ear source (Some message) = heard_in ear source message

-- what is granted is granted for less than 2^32 seconds: a message has four bytes for them
abbrev pub IsShort : Heard → Type 0
IsShort Nothing = ⊤
IsShort (AnOffer server address) = ⊤
IsShort (AnAck granted) = granted.times.end < 2 ^ 32 * 1000000
IsShort ARefusal = ⊤

-- a lease that was granted at a moment, with the server of the offer
abbrev pub lease_with : ℤ → ServerInfo → Granted → Lease
lease_with now server granted = record {
  server = server;
  address = granted.address;
  router = granted.router;
  renew_at = instant_after now granted.times.renew;
  rebind_at = instant_after now granted.times.rebind;
  rebinding = false;
  expires_at = instant_after now granted.times.end;
}
