-- How a server answers what is asked, by its calls so far, the newest first (RFC 2131, section 4.3; RFC 826).
use Rattle.std.specs.Prelude.{◌≡◌, ℕ, List, ◌∷◌, Option, Some, None}
use Rattle.net_wire.specs.Arp.{arp_frame_bytes}
use Rattle.net_wire.specs.Datagram.{Datagram, IsSentFrame}
use Rattle.net_wire.specs.DhcpBytes.{message_bytes}
use Rattle.net_wire.specs.DhcpMessage.{Message}
use Rattle.dhcp_client.specs.Messages.{limited_broadcast}
use Rattle.host_model.specs.Frames.{reply_to}
use Rattle.host_model.specs.Neighbor.{ethernet_broadcast}
use Rattle.lease_server.specs.declared.reply.Reply.{Reply}
use Rattle.lease_server.specs.Calls.{call_for}
use Rattle.lease_server.specs.Holdings.{Call}
use Rattle.lease_server.specs.Messages.{reply_message}
use Rattle.lease_server.specs.Values.{Values}
use Rattle.server_run.specs.declared.report.Answered.{Answered}
use Rattle.server_run.specs.declared.report.Answered.TheVariants as answered
use Rattle.server_run.specs.Asking.{Asked, ByDhcp, ByArp, Nothing, own_address}

-- the reply to a message that comes at an instant
abbrev pub reply_at : Values → List Call → ℕ → Message → Reply
reply_at values calls at request = (call_for values calls at request).reply

abbrev pub answered_at : Values → List Call → ℕ → Asked → Answered
answered_at values calls at (ByDhcp request) = answered.Dhcp (reply_at values calls at request)
answered_at values calls at (ByArp arp) = answered.Arp
answered_at values calls at Nothing = answered.Nothing

-- the calls with the one that this makes: each message of a client makes one
abbrev pub calls_with : Values → List Call → ℕ → Asked → List Call
calls_with values calls at (ByDhcp request) = call_for values calls at request ∷ calls
calls_with values calls at (ByArp arp) = calls
calls_with values calls at Nothing = calls

-- a message of the server: from its port, 67, to that of clients, 68, of all hosts (RFC 2131, section 4.1)
abbrev pub reply_datagram : Values → Message → Datagram
reply_datagram values message = record {
  source = values.address;
  destination = limited_broadcast;
  source_port = 67;
  destination_port = 68;
  payload = message_bytes message;
}

-- the frame of a message to all stations; none for no message
abbrev pub IsFrameOf : Values → Option Message → Option (List ℕ) → Type 0
IsFrameOf values None sent = sent ≡ None
IsFrameOf values (Some message) sent = (frame : List ℕ) × (sent ≡ Some frame)
    × IsSentFrame values.hardware ethernet_broadcast 64 (reply_datagram values message) frame

-- what is sent: the message of the reply, or the ARP reply with the server's addresses to who asked
abbrev pub IsSentAt : Values → List Call → ℕ → Asked → Option (List ℕ) → Type 0
IsSentAt values calls at (ByDhcp request) sent =
    IsFrameOf values (reply_message values request (reply_at values calls at request)) sent
IsSentAt values calls at (ByArp arp) sent = sent
    ≡ Some (arp_frame_bytes values.hardware arp.source_hardware_addr
    (reply_to values.hardware (own_address values) arp))
IsSentAt values calls at Nothing sent = sent ≡ None
