-- What is granted has its dues in order, and so has a client after any message.
use Rattle.std.proofs.Common.{ℕ, ◌≤◌, ℤ, Bool, true, false, cond, List}
use Rattle.std.specs.Prelude.{Option, Some, None, ⊤}
use Rattle.net_wire.specs.declared.address.Ipv4Address.{Ipv4Address}
use Rattle.net_wire.specs.declared.dhcp.DhcpMessageType.{DhcpMessageType}
use Rattle.net_wire.specs.declared.dhcp.DhcpMessageType.TheVariants.{Discover, Offer, Request, Decline, Ack, Nak, Release, Inform, Unknown}
use Rattle.net_wire.specs.declared.error.Context.{Context}
use Rattle.net_wire.specs.DhcpMessage.{Message}
use Rattle.net_wire.specs.Unicast.{is_unicast}
use Rattle.dhcp_client.specs.declared.state.ClientState.{ClientState}
use Rattle.dhcp_client.specs.declared.state.ClientState.TheVariants.{Discovering, Requesting, Renewing}
use Rattle.dhcp_client.specs.declared.state.ServerInfo.{ServerInfo}
use Rattle.dhcp_client.specs.Client.{Client}
use Rattle.dhcp_client.specs.Config.{ClientSettings}
use Rattle.dhcp_client.specs.Ending.{IsOrdered}
use Rattle.dhcp_client.specs.Heard.{Granted, Heard, Nothing, AnOffer, AnAck, ARefusal, Ear, prefix_in, server_with, ack_with, heard_by_type, heard_from, heard_in, is_for, is_taken}
use Rattle.dhcp_client.specs.Hearing.{after_offer, after_ack, after_refusal, after_heard, with_packet, after_bytes, after_message, ear_of}
use Rattle.dhcp_client.specs.Times.{AreOrdered, lease_span, spans}
use Rattle.dhcp_client.proofs.SpanLemmas.{grows, spans_ordered}

abbrev pub GrantsOrdered : Heard → Type 0
GrantsOrdered Nothing = ⊤
GrantsOrdered (AnOffer server address) = ⊤
GrantsOrdered (AnAck granted) = AreOrdered granted.times
GrantsOrdered ARefusal = ⊤

by_test : (test : Bool) (one other : Heard) → GrantsOrdered one → GrantsOrdered other → GrantsOrdered (cond test one other)
by_test true one other if_one if_other = if_one
by_test false one other if_one if_other = if_other

ack_grants : (settings : ClientSettings) (message : Message) (prefix : Option ℕ) → GrantsOrdered (ack_with settings message prefix)
ack_grants settings message None = tt
ack_grants settings message (Some prefix_len) =
    spans_ordered (lease_span settings.max_lease message.lease_duration) message.renew_duration message.rebind_duration

type_grants : (settings : ClientSettings) (server : ServerInfo) (message : Message) (kind : DhcpMessageType)
    → GrantsOrdered (heard_by_type settings server message kind)
type_grants settings server message Offer = by_test (is_unicast message.your_ip) (AnOffer server message.your_ip) Nothing tt tt
type_grants settings server message Ack =
    by_test (is_unicast message.your_ip) (ack_with settings message (prefix_in message.subnet_mask)) Nothing
    (ack_grants settings message (prefix_in message.subnet_mask)) tt
type_grants settings server message Nak = by_test settings.ignore_naks Nothing ARefusal tt tt
type_grants settings server message Discover = tt
type_grants settings server message Request = tt
type_grants settings server message Decline = tt
type_grants settings server message Release = tt
type_grants settings server message Inform = tt
type_grants settings server message (Unknown number) = tt

from_grants : (settings : ClientSettings) (source : Ipv4Address) (message : Message) (identifier : Option Ipv4Address)
    → GrantsOrdered (heard_from settings source message identifier)
from_grants settings source message None = tt
from_grants settings source message (Some identifier) = type_grants settings (server_with source identifier) message message.message_type

pub in_grants : (ear : Ear) (source : Ipv4Address) (message : Message) → GrantsOrdered (heard_in ear source message)
in_grants ear source message =
    by_test (is_for ear message) (heard_from ear.settings source message message.server_identifier) Nothing
    (from_grants ear.settings source message message.server_identifier) tt

offer_ordered : (state : ClientState) (server : ServerInfo) (address : Ipv4Address) (now : ℤ) (client : Client)
    → IsOrdered client.state → IsOrdered (after_offer state server address now client).state
offer_ordered (Discovering retry_at) server address now client ordered = tt
offer_ordered (Requesting retry_at retry old requested_ip) server address now client ordered = ordered
offer_ordered (Renewing lease) server address now client ordered = ordered

ack_ordered : (state : ClientState) (granted : Granted) (now : ℤ) (client : Client) → AreOrdered granted.times
    → IsOrdered client.state → IsOrdered (after_ack state granted now client).state
ack_ordered (Discovering retry_at) granted now client grants ordered = ordered
ack_ordered (Requesting retry_at retry server requested_ip) granted now client grants ordered =
    grows now granted.times.renew granted.times.rebind grants.renewal
ack_ordered (Renewing lease) granted now client grants ordered =
    grows now granted.times.renew granted.times.rebind grants.renewal

refusal_ordered : (state : ClientState) (client : Client) → IsOrdered client.state → IsOrdered (after_refusal state client).state
refusal_ordered (Discovering retry_at) client ordered = ordered
refusal_ordered (Requesting retry_at retry server requested_ip) client ordered = tt
refusal_ordered (Renewing lease) client ordered = tt

heard_ordered : (heard : Heard) (now : ℤ) (client : Client) → GrantsOrdered heard → IsOrdered client.state → IsOrdered (after_heard heard now client).state
heard_ordered Nothing now client grants ordered = ordered
heard_ordered (AnOffer server address) now client grants ordered = offer_ordered client.state server address now client ordered
heard_ordered (AnAck granted) now client grants ordered = ack_ordered client.state granted now client grants ordered
heard_ordered ARefusal now client grants ordered = refusal_ordered client.state client ordered

kept_ordered : (test : Bool) (bytes : List ℕ) (client : Client) → IsOrdered client.state → IsOrdered (cond test (with_packet bytes client) client).state
kept_ordered true bytes client ordered = ordered
kept_ordered false bytes client ordered = ordered

pub message_ordered : (client : Client) (cx : Context) (source : Ipv4Address) (bytes : List ℕ) (message : Option Message)
    → IsOrdered client.state → IsOrdered (after_message client cx source bytes message).state
message_ordered client cx source bytes None ordered = ordered
message_ordered client cx source bytes (Some message) ordered =
    heard_ordered (heard_in (ear_of client cx) source message) cx.now (after_bytes client cx bytes message) (in_grants (ear_of client cx) source message)
    (kept_ordered (is_taken (ear_of client cx) message) bytes client ordered)
