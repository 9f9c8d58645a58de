-- The DHCP message that an event names (RFC 2131, section 4.4.1 and table 5).
use Rattle.std.specs.Prelude.{ℕ, Option, Some, None, List, nat_lt, if◌then◌else◌}
use Rattle.net_wire.specs.declared.address.Ipv4Address.{Ipv4Address}
use Rattle.net_wire.specs.DhcpMessage.{Message}
use Rattle.dhcp_client.specs.declared.state.ServerInfo.{ServerInfo}
use Rattle.dhcp_client.specs.Messages.{discover_message, request_message, renewal_message}
use Rattle.dhcp_client.specs.Messages.{unspecified, limited_broadcast}
use Rattle.host_model.specs.declared.words.EventWords.{EventWords}
use Rattle.host_model.specs.Script.{Event}
use Rattle.host_model.specs.Settings.{Settings}
use Rattle.host_model.specs.History.{Entry, Transmission, last_id, times_since}
use Rattle.host_model.specs.Anchor.{Anchor, Loss, Offer, Ack, anchor_at, due_under, lease_times, place_of}

-- a message from no address to all hosts of the link
abbrev pub broadcast_of : Message → Transmission
broadcast_of message = record { message = message; source = unspecified; destination = limited_broadcast }

-- a renewal goes to the server before T2, and from then on to all hosts of the link
abbrev pub renewal_destination : ℕ → ℕ → ServerInfo → Ipv4Address
renewal_destination at rebind server = if nat_lt at rebind then server.address else limited_broadcast

-- Without a lease: a discover, whose id is the event's first word. With an offer: a request of what was
-- offered, with the id of the last message. With a lease: a renewal from the leased address, whose id is the
-- first word.
abbrev pub message_under : Settings → ℕ → ℕ → EventWords → Anchor → Transmission
message_under settings id at words (Loss place) = broadcast_of
    (discover_message settings.hardware settings.ip_mtu settings.client.parameters settings.client.options
    words.first)
message_under settings id at words (Offer place since server address) = broadcast_of
    (request_message server.identifier address settings.hardware settings.ip_mtu settings.client.parameters
    settings.client.options id)
message_under settings id at words (Ack place since granted server) = record {
  message = renewal_message granted.address.address settings.hardware settings.ip_mtu
      settings.client.parameters settings.client.options words.first;
  source = granted.address.address;
  destination = renewal_destination at (lease_times since granted).rebind server;
}

-- none before the due
abbrev pub named_under : Settings → List Entry → Event → EventWords → Anchor → Option Transmission
named_under settings before event words anchor =
    if nat_lt event.at (due_under settings.client.retry (times_since (place_of anchor) before) anchor)
    then None
    else Some (message_under settings (last_id before) event.at words anchor)

-- the message that an event names, by the entries before it and its words
abbrev pub named_message : Settings → List Entry → Event → EventWords → Option Transmission
named_message settings before event words =
    named_under settings before event words (anchor_at settings before event)
