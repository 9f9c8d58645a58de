-- What the client goes by has addresses of four bytes.
use Rattle.std.proofs.Common.{ℕ, Bool, true, false, cond, List, Option, Some, None, length}
use Rattle.std.specs.Prelude.{⊤}
use Rattle.net_wire.specs.declared.address.Ipv4Address.{Ipv4Address}
use Rattle.net_wire.specs.declared.dhcp.DhcpMessageType.{DhcpMessageType}
use Rattle.net_wire.specs.declared.dhcp.DhcpMessageType.TheVariants.{Discover, Offer, Request, Decline, Ack, Nak, Release, Inform, Unknown}
use Rattle.net_wire.specs.Arrival.{arriving_datagram}
use Rattle.net_wire.specs.Datagram.{Datagram}
use Rattle.net_wire.specs.DhcpMessage.{Message}
use Rattle.net_wire.specs.DhcpRead.{message_at}
use Rattle.net_wire.specs.DhcpReadBack.{HasFour}
use Rattle.net_wire.specs.Unicast.{is_unicast}
use Rattle.dhcp_client.specs.declared.state.ServerInfo.{ServerInfo}
use Rattle.dhcp_client.specs.Config.{ClientSettings}
use Rattle.dhcp_client.specs.Heard.{Granted, Heard, Nothing, AnOffer, AnAck, ARefusal, Ear, prefix_in, server_with, ack_with, heard_by_type, heard_from, heard_of, is_for}
use Rattle.host_model.specs.Script.{Arrival, Tick, Reset, Frame, Query}
use Rattle.host_model.specs.Settings.{Settings}
use Rattle.host_model.specs.History.{Entry}
use Rattle.host_model.specs.Hearing.{ear_after, heard_at, heard_by, is_for_client}
use Rattle.host_model.specs.Anchor.{Anchor, anchor_after, anchor_after_arrival, anchor_after_heard, anchor_before, is_over, place_of}
use Rattle.host_model.specs.Anchor as anchor
use Rattle.host_model.proofs.AddressSizeLemmas.{HasFourIn, HaveFour}
use Rattle.host_model.proofs.ReadSizeLemmas.{HasFourSource, HasFours, HasFoursIn, message_fours, source_four}

pub record OffersFours (server : ServerInfo) (address : Ipv4Address) : Type 0 where
  pub source : HasFour server.address
  pub identifier : HasFour server.identifier
  pub offered : HasFour address

pub record GrantsFours (granted : Granted) : Type 0 where
  pub address : HasFour granted.address.address
  pub router : HasFourIn granted.router
  pub servers : HaveFour granted.dns_servers

abbrev HearsFours : Heard → Type 0
HearsFours Nothing = ⊤
HearsFours (AnOffer server address) = OffersFours server address
HearsFours (AnAck granted) = GrantsFours granted
HearsFours ARefusal = ⊤

by_test : (test : Bool) (one other : Heard) → HearsFours one → HearsFours other
    → HearsFours (cond test one other)
by_test true one other if_one if_other = if_one
by_test false one other if_one if_other = if_other

ack_fours : (settings : ClientSettings) (message : Message) (prefix : Option ℕ) → HasFours message
    → HearsFours (ack_with settings message prefix)
ack_fours settings message None fours = tt
ack_fours settings message (Some prefix_len) fours =
    record { address = fours.your_ip; router = fours.router; servers = fours.servers }

type_fours : (settings : ClientSettings) (server : ServerInfo) (message : Message) (kind : DhcpMessageType)
    → HasFours message → HasFour server.address → HasFour server.identifier
    → HearsFours (heard_by_type settings server message kind)
type_fours settings server message Offer fours source identifier =
    by_test (is_unicast message.your_ip) (AnOffer server message.your_ip) Nothing
    (record { source = source; identifier = identifier; offered = fours.your_ip }) tt
type_fours settings server message Ack fours source identifier =
    by_test (is_unicast message.your_ip) (ack_with settings message (prefix_in message.subnet_mask)) Nothing
    (ack_fours settings message (prefix_in message.subnet_mask) fours) tt
type_fours settings server message Nak fours source identifier =
    by_test settings.ignore_naks Nothing ARefusal tt tt
type_fours settings server message Discover fours source identifier = tt
type_fours settings server message Request fours source identifier = tt
type_fours settings server message Decline fours source identifier = tt
type_fours settings server message Release fours source identifier = tt
type_fours settings server message Inform fours source identifier = tt
type_fours settings server message (Unknown number) fours source identifier = tt

from_fours : (settings : ClientSettings) (source : Ipv4Address) (message : Message)
    (identifier : Option Ipv4Address) → HasFours message → HasFour source → HasFourIn identifier
    → HearsFours (heard_from settings source message identifier)
from_fours settings source message None fours four also_four = tt
from_fours settings source message (Some identifier) fours four also_four =
    type_fours settings (server_with source identifier) message message.message_type fours four also_four

of_fours : (ear : Ear) (source : Ipv4Address) (message : Option Message) → HasFoursIn message → HasFour source
    → HearsFours (heard_of ear source message)
of_fours ear source None fours four = tt
of_fours ear source (Some message) fours four =
    by_test (is_for ear message) (heard_from ear.settings source message message.server_identifier) Nothing
    (from_fours ear.settings source message message.server_identifier fours four fours.server_identifier) tt

by_fours : (ear : Ear) (datagram : Option Datagram) → HasFourSource datagram
    → HearsFours (heard_by ear datagram)
by_fours ear None four = tt
by_fours ear (Some datagram) four =
    by_test (is_for_client ear.settings datagram) (heard_of ear datagram.source (message_at datagram.payload))
    Nothing
    (of_fours ear datagram.source (message_at datagram.payload) (message_fours datagram.payload) four) tt

-- an anchor's addresses have four bytes
abbrev pub AnchorsFours : Anchor → Type 0
AnchorsFours (anchor.Loss place) = ⊤
AnchorsFours (anchor.Offer place since server address) = OffersFours server address
AnchorsFours (anchor.Ack place since granted server) = GrantsFours granted × HasFour server.address

heard_fours : (here at : ℕ) (heard : Heard) (before : Anchor) → HearsFours heard → AnchorsFours before
    → AnchorsFours (anchor_after_heard here at heard before)
heard_fours here at (AnOffer server address) (anchor.Loss place) hears had = hears
heard_fours here at (AnAck granted) (anchor.Offer place since server address) hears had = (hears, had.source)
heard_fours here at (AnAck granted) (anchor.Ack place since old server) hears had = (hears, had.1)
heard_fours here at ARefusal (anchor.Offer place since server address) hears had = tt
heard_fours here at ARefusal (anchor.Ack place since granted server) hears had = tt
heard_fours here at Nothing before hears had = had
heard_fours here at (AnOffer server address) (anchor.Offer place since old asked) hears had = had
heard_fours here at (AnOffer server address) (anchor.Ack place since granted old) hears had = had
heard_fours here at (AnAck granted) (anchor.Loss place) hears had = tt
heard_fours here at ARefusal (anchor.Loss place) hears had = tt

pub arrival_fours : (settings : Settings) (before : List Entry) (at : ℕ) (arrival : Arrival) (had : Anchor)
    → AnchorsFours had → AnchorsFours (anchor_after_arrival settings before at arrival had)
arrival_fours settings before at Tick had fours = fours
arrival_fours settings before at Reset had fours = tt
arrival_fours settings before at (Frame bytes) had fours =
    heard_fours (length before) at (heard_at settings before bytes) had
    (by_fours (ear_after settings before) (arriving_datagram settings.hardware bytes)
    (source_four settings.hardware bytes)) fours
arrival_fours settings before at (Query type_ name) had fours = fours
