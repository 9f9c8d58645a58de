-- Lives of the examples: the events of a host, and what is looked at of them.
use Rattle.std.specs.Prelude.{ℕ, ◌+◌, List, [], ◌∷◌, Option, Some, map, length}
use Rattle.std.specs.List.{flat_map, range_with_len}
use Rattle.std.specs.Option.{option_map}
use Rattle.net_wire.specs.declared.address.EthernetAddress.{EthernetAddress}
use Rattle.net_wire.specs.declared.address.Ipv4Address.{Ipv4Address}
use Rattle.net_wire.specs.declared.address.Ipv4Cidr.{Ipv4Cidr}
use Rattle.net_wire.specs.declared.dhcp.DhcpMessageType.{DhcpMessageType}
use Rattle.net_wire.specs.declared.dhcp.DhcpMessageType.TheVariants.{Discover, Request}
use Rattle.net_wire.specs.DhcpRead.{address_with, hardware_with}
use Rattle.dhcp_client.specs.Heard.{Granted, cidr_with, server_with}
use Rattle.dhcp_client.specs.Messages.{unspecified, limited_broadcast}
use Rattle.dhcp_client.specs.Times.{spans_with}
use Rattle.dhcp_client.specs.declared.state.ServerInfo.{ServerInfo}
use Rattle.host_model.specs.Script.{Frame, Event}
use Rattle.host_model.specs.History.{Entry, SentMessage}
use Rattle.host_model.specs.Anchor.{Anchor, anchor_before}
use Rattle.host_model.specs.Chronicle.{entry_at, history, words_at}
use Rattle.host_model.specs.Examples.{example_settings}
use Rattle.host_model.specs.Frames.{Listed, frames_of}
use Rattle.host_model.specs.Lease.{leased_under}
use Rattle.host_model.specs.Neighbor.{ethernet_broadcast}
use Rattle.host_model.specs.ServerFrames.{host, told_station}

abbrev pub frame : ℕ → List ℕ → Event
frame at bytes = record { at = at; arrival = Frame bytes }

-- the words of an event are 100 and its place, 7, and its place
abbrev pub life_words : List ℕ
life_words = flat_map (λ place. (100 + place) ∷ 7 ∷ place ∷ []) (range_with_len 0 40)

abbrev pub life : List Event → List Entry
life events = history example_settings life_words events

-- a message that went out: its type, its id, the addresses that it went between, and the station of its hop
pub record Sent : Type 0 where
  pub kind : DhcpMessageType
  pub id : ℕ
  pub source : Ipv4Address
  pub destination : Ipv4Address
  pub hop : EthernetAddress

abbrev pub sent_as : SentMessage → Sent
sent_as sent = record {
  kind = sent.transmission.message.message_type;
  id = sent.transmission.message.transaction_id;
  source = sent.transmission.source;
  destination = sent.transmission.destination;
  hop = sent.hop;
}

-- in each event, newest first
abbrev pub all_sent : List Entry → List (Option Sent)
all_sent entries = map (λ entry. option_map sent_as entry.sent) entries

-- in an event that follows on others
abbrev pub sent_at : List Event → Event → Option Sent
sent_at before event = option_map sent_as (entry_at example_settings life_words (life before) event).sent

abbrev pub sent_to_all : DhcpMessageType → ℕ → Ipv4Address → Option Sent
sent_to_all kind id source = Some (record {
  kind = kind;
  id = id;
  source = source;
  destination = limited_broadcast;
  hop = ethernet_broadcast;
})

abbrev pub our_address : Ipv4Address
our_address = address_with (host 42)

abbrev pub server_address : Ipv4Address
server_address = address_with (host 1)

abbrev pub discovers : ℕ → Option Sent
discovers id = sent_to_all Discover id unspecified

abbrev pub requests : ℕ → Option Sent
requests id = sent_to_all Request id unspecified

-- a renewal to all servers, and one to the server, by the station that it has
abbrev pub rebinds : ℕ → Option Sent
rebinds id = sent_to_all Request id our_address

abbrev pub renews : ℕ → Option Sent
renews id = Some (record {
  kind = Request;
  id = id;
  source = our_address;
  destination = server_address;
  hop = hardware_with told_station;
})

abbrev pub server : ServerInfo
server = server_with server_address server_address

abbrev pub our_cidr : Ipv4Cidr
our_cidr = cidr_with our_address 24

-- what the acknowledgement of 1000 seconds grants: T1 and T2 are a half and seven eighths of it
abbrev pub granted : Granted
granted = record {
  address = our_cidr;
  router = Some server_address;
  dns_servers = address_with (host 53) ∷ [];
  times = spans_with 500000000 875000000 1000000000;
}

abbrev pub anchor : List Event → Anchor
anchor events = anchor_before example_settings (life events)

abbrev pub leased : List Event → Option Ipv4Cidr
leased events = leased_under (anchor events)

-- the frames of an event that follows on others
abbrev pub frames : List Event → Event → List Listed
frames before event = frames_of example_settings (life before) event (words_at life_words (length before))
