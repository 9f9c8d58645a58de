-- What arrives leaves a client that a host can dispatch.
use Rattle.std.proofs.Common.{◌≡◌, ℕ, ℤ, Bool, true, false, cond, List, Option, Some, None, refl, ◌∙◌}
use Rattle.net_wire.specs.declared.address.Ipv4Address.{Ipv4Address}
use Rattle.net_wire.specs.declared.error.Context.{Context}
use Rattle.net_wire.specs.Arrival.{arriving_datagram}
use Rattle.net_wire.specs.Datagram.{Datagram}
use Rattle.net_wire.specs.DhcpMessage.{Message}
use Rattle.net_wire.specs.DhcpRead.{message_at}
use Rattle.dhcp_client.specs.declared.state.ClientState.{ClientState}
use Rattle.dhcp_client.specs.declared.state.ClientState.TheVariants.{Discovering, Requesting, Renewing}
use Rattle.dhcp_client.specs.declared.state.ServerInfo.{ServerInfo}
use Rattle.dhcp_client.specs.Client.{Client}
use Rattle.dhcp_client.specs.Heard.{Granted, Heard, Nothing, AnOffer, AnAck, ARefusal, heard_in, is_taken}
use Rattle.dhcp_client.specs.Hearing.{after_offer, after_ack, after_refusal, after_heard, after_bytes}
use Rattle.dhcp_client.specs.Hearing.{after_message, ear_of, with_packet}
use Rattle.dhcp_client.proofs.HeardLemmas.{message_ordered}
use Rattle.host_model.specs.Hearing.{is_for_client}
use Rattle.host_model.specs.Script.{Arrival, Tick, Reset, Frame, Query}
use Rattle.net_host.specs.Hearing.{after_arrival, after_datagram}
use Rattle.net_host.specs.Polling.{IsReady}
use Rattle.net_host.proofs.ReadyLemmas.{ready_with}

-- what the client was told stays
offer_told : (state : ClientState) (server : ServerInfo) (address : Ipv4Address) (now : ℤ) (client : Client)
    → (after_offer state server address now client).settings ≡ client.settings
offer_told (Discovering retry_at) server address now client = refl
offer_told (Requesting retry_at retry old requested) server address now client = refl
offer_told (Renewing lease) server address now client = refl

ack_told : (state : ClientState) (granted : Granted) (now : ℤ) (client : Client)
    → (after_ack state granted now client).settings ≡ client.settings
ack_told (Discovering retry_at) granted now client = refl
ack_told (Requesting retry_at retry server requested) granted now client = refl
ack_told (Renewing lease) granted now client = refl

refusal_told : (state : ClientState) (client : Client)
    → (after_refusal state client).settings ≡ client.settings
refusal_told (Discovering retry_at) client = refl
refusal_told (Requesting retry_at retry server requested) client = refl
refusal_told (Renewing lease) client = refl

heard_told : (heard : Heard) (now : ℤ) (client : Client)
    → (after_heard heard now client).settings ≡ client.settings
heard_told Nothing now client = refl
heard_told (AnOffer server address) now client = offer_told client.state server address now client
heard_told (AnAck granted) now client = ack_told client.state granted now client
heard_told ARefusal now client = refusal_told client.state client

kept_told : (test : Bool) (bytes : List ℕ) (client : Client)
    → (cond test (with_packet bytes client) client).settings ≡ client.settings
kept_told true bytes client = refl
kept_told false bytes client = refl

pub message_told : (client : Client) (cx : Context) (source : Ipv4Address) (bytes : List ℕ)
    (message : Option Message) → (after_message client cx source bytes message).settings ≡ client.settings
message_told client cx source bytes None = refl
message_told client cx source bytes (Some message) =
    heard_told (heard_in (ear_of client cx) source message) cx.now (after_bytes client cx bytes message)
    ∙ kept_told (is_taken (ear_of client cx) message) bytes client

by_ports : (test : Bool) (one other : Client) (ip_mtu : ℕ) → IsReady one ip_mtu → IsReady other ip_mtu
    → IsReady (cond test one other) ip_mtu
by_ports true one other ip_mtu is_one is_other = is_one
by_ports false one other ip_mtu is_one is_other = is_other

datagram_ready : (cx : Context) (datagram : Option Datagram) (client : Client) (ip_mtu : ℕ)
    → IsReady client ip_mtu → IsReady (after_datagram cx datagram client) ip_mtu
datagram_ready cx None client ip_mtu ready = ready
datagram_ready cx (Some datagram) client ip_mtu ready =
    let message = message_at datagram.payload in
    let after = after_message client cx datagram.source datagram.payload message in
    by_ports (is_for_client client.settings datagram) after client ip_mtu
    (ready_with client after ip_mtu (message_told client cx datagram.source datagram.payload message)
    (message_ordered client cx datagram.source datagram.payload message ready.ordered) ready)
    ready

pub arrival_ready : (cx : Context) (arrival : Arrival) (client : Client) (ip_mtu : ℕ)
    → IsReady client ip_mtu → IsReady (after_arrival cx arrival client) ip_mtu
arrival_ready cx Tick client ip_mtu ready = ready
arrival_ready cx (Query type_ name) client ip_mtu ready = ready
arrival_ready cx Reset client ip_mtu ready =
    record { ordered = tt; timeouts = ready.timeouts; writable = ready.writable }
arrival_ready cx (Frame bytes) client ip_mtu ready =
    datagram_ready cx (arriving_datagram cx.hardware_addr bytes) client ip_mtu ready
