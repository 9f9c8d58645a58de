-- The frames that a row lists, by what an event sends.
use Rattle.std.specs.Prelude.{◌≡◌, ℕ, List, [], ◌∷◌, Option, Some, None}
use Rattle.net_wire.specs.Arp.{arp_frame_bytes}
use Rattle.net_wire.specs.Datagram.{Datagram, IsSentFrame}
use Rattle.net_wire.specs.DhcpBytes.{message_bytes}
use Rattle.host_model.specs.Frames.{Listed, query_datagram}
use Rattle.host_model.specs.Frames as listed
use Rattle.host_model.specs.History.{SentMessage, Transmission}
use Rattle.host_model.specs.QueryLooks.{SentAsk}
use Rattle.host_model.specs.Settings.{Settings}
use Rattle.net_host.specs.declared.report.Mark.{Mark}
use Rattle.net_host.specs.declared.report.Mark.TheVariants.{Dhcp, Dns, ArpReply, ArpRequest}
use Rattle.net_host.specs.declared.report.Sent.{Sent}
use Rattle.net_host.specs.QueryEmitter.{query_sent}

-- the datagram of a DHCP message, from the client's port to the server's
abbrev pub datagram_for : Settings → Transmission → Datagram
datagram_for settings transmission = record {
  source = transmission.source;
  destination = transmission.destination;
  source_port = settings.client.client_port;
  destination_port = settings.client.server_port;
  payload = message_bytes transmission.message;
}

-- a frame with its mark
abbrev pub sent_with : Mark → List ℕ → Sent
sent_with mark frame = record { mark = mark; frame = frame }

-- The frame of a message that is sent: from the host's hardware address to the message's hop, with hop limit 64.
abbrev pub IsFrameOf : Settings → SentMessage → List ℕ → Type 0
IsFrameOf settings sent frame =
    IsSentFrame settings.hardware sent.hop 64 (datagram_for settings sent.transmission) frame

-- and so that of a query's message
abbrev pub IsFrameOfQuery : Settings → SentAsk → List ℕ → Type 0
IsFrameOfQuery settings sent frame =
    IsSentFrame settings.hardware sent.hop 64 (query_datagram sent.ask) frame

-- What is listed, marked as such: an ARP packet from the host's hardware address, or the frame of a message.
abbrev pub IsListed : Settings → Listed → Sent → Type 0
IsListed settings (listed.ArpReply to arp) sent = sent ≡ sent_with ArpReply (arp_frame_bytes settings.hardware to arp)
IsListed settings (listed.ArpRequest to arp) sent =
    sent ≡ sent_with ArpRequest (arp_frame_bytes settings.hardware to arp)
IsListed settings (listed.Dhcp message) sent =
    (frame : List ℕ) × (sent ≡ sent_with Dhcp frame) × IsFrameOf settings message frame
IsListed settings (listed.Dns sent_ask) sent =
    (frame : List ℕ) × (sent ≡ query_sent sent_ask.ask.query sent_ask.ask.place frame)
    × IsFrameOfQuery settings sent_ask frame

-- one for one, in their order
abbrev pub AreListed : Settings → List Listed → List Sent → Type 0
AreListed settings [] [] = Unit {0}
AreListed settings [] (sent ∷ more) = ⊥
AreListed settings (one ∷ others) [] = ⊥
AreListed settings (one ∷ others) (sent ∷ more) = IsListed settings one sent × AreListed settings others more

-- the frames that are marked as those of the DHCP client
abbrev pub with_dhcp : Mark → List ℕ → List (List ℕ) → List (List ℕ)
with_dhcp Dhcp frame frames = frame ∷ frames
with_dhcp ArpReply frame frames = frames
with_dhcp ArpRequest frame frames = frames
with_dhcp (Dns query place) frame frames = frames

abbrev pub dhcp_frames : List Sent → List (List ℕ)
dhcp_frames [] = []
dhcp_frames (sent ∷ more) = with_dhcp sent.mark sent.frame (dhcp_frames more)

-- the frames are that of a message alone, or there is neither
abbrev pub AreFramesOf : Settings → Option SentMessage → List (List ℕ) → Type 0
AreFramesOf settings None frames = frames ≡ []
AreFramesOf settings (Some sent) frames =
    (frame : List ℕ) × IsFrameOf settings sent frame × (frames ≡ frame ∷ [])
