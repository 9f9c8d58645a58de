-- What arrives in an event leaves a client that goes by the anchor after it.
use Rattle.std.proofs.Common.{◌≡◌, ℕ, ◌<◌, ℤ, Bool, true, false, cond, List, Option, Some, None, pos, length, sym, subst, refl}
use Rattle.net_wire.specs.declared.address.EthernetAddress.{EthernetAddress}
use Rattle.net_wire.specs.declared.address.Ipv4Address.{Ipv4Address}
use Rattle.net_wire.specs.declared.error.Context.{Context}
use Rattle.net_wire.specs.Arrival.{arriving_datagram}
use Rattle.net_wire.specs.Datagram.{Datagram}
use Rattle.net_wire.specs.DhcpMessage.{Message}
use Rattle.net_wire.specs.DhcpRead.{message_at}
use Rattle.dhcp_client.specs.declared.state.ClientState.{ClientState}
use Rattle.dhcp_client.specs.Client.{Client}
use Rattle.dhcp_client.specs.Heard.{Heard, Nothing, AnOffer, AnAck, ARefusal, Ear, IsShort, heard_in, heard_of, is_taken}
use Rattle.dhcp_client.specs.Hearing.{after_offer, after_ack, after_refusal, after_heard, after_bytes, after_message, ear_of, with_packet}
use Rattle.dhcp_client.proofs.HeardLemmas.{GrantsOrdered, in_grants}
use Rattle.host_model.specs.Script.{Arrival, Tick, Reset, Frame, Query, time_limit}
use Rattle.host_model.specs.Settings.{Settings}
use Rattle.host_model.specs.History.{Entry}
use Rattle.host_model.specs.Hearing.{ear_after, heard_by, is_for_client}
use Rattle.host_model.specs.Anchor.{Anchor, anchor_after_heard, anchor_after_arrival}
use Rattle.net_host.specs.Following.{AgreesUnder, Holding}
use Rattle.net_host.specs.Hearing.{after_datagram, after_arrival, IsShortIn}
use Rattle.net_host.proofs.Contexts.{IsContextOf}
use Rattle.net_host.proofs.GrantLemmas.{offered, acknowledged}
use Rattle.net_host.proofs.LossLemmas.{anew, refused}

-- a client goes by the anchor after what is heard
abbrev AgreesOnceHeard : Settings → List Entry → ℕ → Heard → Anchor → Holding → Client → Type 0
AgreesOnceHeard settings before at heard anchor held client =
    AgreesUnder settings before (anchor_after_heard (length before) at heard anchor) held client

-- what is heard moves the anchor and the client together
heard_here : (settings : Settings) (before : List Entry) (at : ℕ) (heard : Heard) (anchor : Anchor)
    (held : Holding) (client : Client) → at < time_limit → IsShort heard → GrantsOrdered heard
    → AgreesUnder settings before anchor held client
    → AgreesOnceHeard settings before at heard anchor held (after_heard heard (pos at) client)
heard_here settings before at Nothing anchor held client in_range short ordered agrees = agrees
heard_here settings before at (AnOffer server address) anchor held client in_range short ordered agrees =
    let Agrees : ClientState → Type 0 = λ state. AgreesOnceHeard settings before at
    (AnOffer server address) anchor held (after_offer state server address (pos at) client) in
    subst Agrees (sym agrees.state)
    (offered settings before at anchor held client server address in_range agrees)
heard_here settings before at (AnAck granted) anchor held client in_range short ordered agrees =
    let Agrees : ClientState → Type 0 = λ state. AgreesOnceHeard settings before at
    (AnAck granted) anchor held (after_ack state granted (pos at) client) in
    subst Agrees (sym agrees.state) (acknowledged settings before at anchor held client granted
    (record { in_range = in_range; ordered = ordered; short = short }) agrees)
heard_here settings before at ARefusal anchor held client in_range short ordered agrees =
    let Agrees : ClientState → Type 0 = λ state. AgreesOnceHeard settings before at ARefusal anchor
    held (after_refusal state client) in
    subst Agrees (sym agrees.state) (refused settings before at anchor held client agrees)

-- that its bytes are kept changes nothing that the relation says
kept : (settings : Settings) (before : List Entry) (anchor : Anchor) (held : Holding) (client : Client)
    (bytes : List ℕ) (test : Bool) → AgreesUnder settings before anchor held client
    → AgreesUnder settings before anchor held (cond test (with_packet bytes client) client)
kept settings before anchor held client bytes true agrees = record {
  id = agrees.id;
  state = agrees.state;
  told = agrees.told;
  placed = agrees.placed;
  sound = agrees.sound;
  names = agrees.names;
  held_is = agrees.held_is;
}
kept settings before anchor held client bytes false agrees = agrees

message_heard : (settings : Settings) (before : List Entry) (at : ℕ) (anchor : Anchor) (held : Holding)
    (cx : Context) (client : Client) (source : Ipv4Address) (bytes : List ℕ) (message : Option Message)
    → IsContextOf settings at cx → at < time_limit → IsShort (heard_of (ear_of client cx) source message)
    → AgreesUnder settings before anchor held client
    → AgreesOnceHeard settings before at (heard_of (ear_of client cx) source message) anchor held
    (after_message client cx source bytes message)
message_heard settings before at anchor held cx client source bytes None is_cx in_range short agrees = agrees
message_heard settings before at anchor held cx client source bytes (Some message) is_cx in_range short agrees
    =
    let heard = heard_in (ear_of client cx) source message in
    let next = after_bytes client cx bytes message in
    let Agrees : ℤ → Type 0 = λ now.
    AgreesOnceHeard settings before at heard anchor held (after_heard heard now next) in
    subst Agrees (sym is_cx.now)
    (heard_here settings before at heard anchor held next in_range short
    (in_grants (ear_of client cx) source message)
    (kept settings before anchor held client bytes (is_taken (ear_of client cx) message) agrees))

-- a datagram between other ports is not heard
by_ports : (settings : Settings) (before : List Entry) (at : ℕ) (anchor : Anchor) (held : Holding)
    (client next : Client) (heard : Heard) (test : Bool) → IsShort (cond test heard Nothing)
    → AgreesUnder settings before anchor held client
    → (IsShort heard → AgreesOnceHeard settings before at heard anchor held next)
    → AgreesOnceHeard settings before at (cond test heard Nothing) anchor held (cond test next client)
by_ports settings before at anchor held client next heard true short agrees once = once short
by_ports settings before at anchor held client next heard false short agrees once = agrees

datagram_heard : (settings : Settings) (before : List Entry) (at : ℕ) (anchor : Anchor) (held : Holding)
    (cx : Context) (client : Client) (datagram : Option Datagram)
    → IsContextOf settings at cx → at < time_limit → IsShort (heard_by (ear_of client cx) datagram)
    → AgreesUnder settings before anchor held client
    → AgreesOnceHeard settings before at (heard_by (ear_of client cx) datagram) anchor held
    (after_datagram cx datagram client)
datagram_heard settings before at anchor held cx client None is_cx in_range short agrees = agrees
datagram_heard settings before at anchor held cx client (Some datagram) is_cx in_range short agrees =
    let message = message_at datagram.payload in
    by_ports settings before at anchor held client
    (after_message client cx datagram.source datagram.payload message)
    (heard_of (ear_of client cx) datagram.source message)
    (is_for_client client.settings datagram) short agrees
    (λ heard_short. message_heard settings before at anchor held cx client datagram.source datagram.payload
    message is_cx in_range heard_short agrees)

-- the client hears by what its history says
same_ear : (settings : Settings) (before : List Entry) (at : ℕ) (anchor : Anchor) (held : Holding)
    (cx : Context) (client : Client)
    → IsContextOf settings at cx → AgreesUnder settings before anchor held client
    → ear_of client cx ≡ ear_after settings before
same_ear settings before at anchor held cx client is_cx agrees =
    rw (is_cx.hardware, agrees.id, agrees.told) refl

pub heard : (settings : Settings) (before : List Entry) (at : ℕ) (arrival : Arrival) (anchor : Anchor)
    (held : Holding) (cx : Context) (client : Client)
    → IsContextOf settings at cx → at < time_limit → IsShortIn cx arrival client
    → AgreesUnder settings before anchor held client
    → AgreesUnder settings before (anchor_after_arrival settings before at arrival anchor) held
    (after_arrival cx arrival client)
heard settings before at Tick anchor held cx client is_cx in_range short agrees = agrees
heard settings before at (Query type_ name) anchor held cx client is_cx in_range short agrees = agrees
heard settings before at Reset anchor held cx client is_cx in_range short agrees =
    anew settings before anchor held client agrees
heard settings before at (Frame bytes) anchor held cx client is_cx in_range short agrees =
    let Agrees : Ear → EthernetAddress → Type 0 = λ ear hardware. AgreesOnceHeard settings before at
    (heard_by ear (arriving_datagram hardware bytes)) anchor held (after_arrival cx (Frame bytes) client) in
    let here : Agrees (ear_of client cx) cx.hardware_addr =
    datagram_heard settings before at anchor held cx client (arriving_datagram cx.hardware_addr bytes) is_cx
    in_range short agrees in
    subst (λ (ear : Ear). Agrees ear settings.hardware)
    (same_ear settings before at anchor held cx client is_cx agrees)
    (subst (λ (hardware : EthernetAddress). Agrees (ear_of client cx) hardware) is_cx.hardware here)
