-- The text of a report, a row of each kind, and the statuses and last lines, as docs/FORMATS.md has them.
use Rattle.std.specs.Prelude.{◌≡◌, ℕ, false, true, List, [], ◌∷◌, ◌++◌, map, replicate, Some, None, Ok, Err, codes, pos}
use Rattle.ether_link.specs.declared.err.layers.Layer.TheVariants as layer
use Rattle.ether_lax.specs.declared.note.FrameNote.{FrameNote}
use Rattle.ether_lax.specs.declared.note.NetKind.TheVariants as net
use Rattle.ether_lax.specs.declared.note.TransportKind.TheVariants as transport
use Rattle.dns_client.specs.declared.error.StartQueryError.TheVariants.{NoFreeSlot, InvalidName, NameTooLong}
use Rattle.host_model.specs.declared.query_line.Outcome.{Outcome}
use Rattle.host_model.specs.declared.query_line.Outcome.TheVariants.{Refused, Answered, Failed}
use Rattle.host_model.specs.declared.query_line.QueryLine.{QueryLine}
use Rattle.net_wire.specs.declared.address.IpAddress.{IpAddress}
use Rattle.net_wire.specs.declared.address.IpAddress.TheVariants as ip
use Rattle.net_wire.specs.declared.address.Ipv4Cidr.{Ipv4Cidr}
use Rattle.net_host.specs.declared.report.Kind.{Kind}
use Rattle.net_host.specs.declared.report.Kind.TheVariants.{Tick, Reset, Frame, Query}
use Rattle.net_host.specs.declared.report.Mark.TheVariants.{Dhcp, Dns, ArpReply, ArpRequest}
use Rattle.net_host.specs.declared.report.Row.{Row}
use Rattle.phy_layers.specs.declared.byte_sink.SinkError.TheVariants as sink
use Rattle.host_top.specs.Ending.{last_line, status_after, status_of}
use Rattle.host_top.specs.ReportText.{net_text, report_bytes, stop_text, transport_text}
use Rattle.host_top.specs.declared.ending.Ending.TheVariants as end

abbrev pub cidr : Ipv4Cidr
cidr = record { address = record { 0 = 192 ∷ 168 ∷ 1 ∷ 42 ∷ [] }; prefix_len = 24 }

abbrev pub note : FrameNote
note = record {
  exts = 2;
  net = net.Ipv6;
  transport = transport.Tcp;
  start = 78;
  end = 1234;
  incomplete = true;
  fragmented = false;
  stop = Some layer.TcpHeader;
}

abbrev pub frame_row : Row
frame_row = record {
  at = pos 1234000056;
  kind = Frame 1240;
  note = Some note;
  lease = Some cidr;
  sent = record { mark = ArpReply; frame = replicate 42 0 } ∷ record { mark = ArpRequest; frame = replicate 43 0 }
      ∷ record { mark = Dns 3 2; frame = replicate 71 0 } ∷ record { mark = Dhcp; frame = replicate 304 0 } ∷ [];
  lines = [];
}

abbrev pub query_row : List QueryLine → Row
query_row lines = record { at = pos 2999999; kind = Query; note = None; lease = Some cidr; sent = []; lines = lines }

abbrev pub plain_row : Kind → Row
plain_row kind = record { at = pos 3000000; kind = kind; note = None; lease = None; sent = []; lines = [] }

abbrev pub line : ℕ → Outcome → QueryLine
line query outcome = record { query = query; outcome = outcome }

abbrev pub answer : IpAddress
answer = ip.Ipv4 (record { 0 = 192 ∷ 0 ∷ 2 ∷ 7 ∷ [] })

abbrev pub long_answer : IpAddress
long_answer =
    ip.Ipv6 (record { 0 = 0x20 ∷ 1 ∷ 0x0D ∷ 0xB8 ∷ 0 ∷ 0 ∷ 0 ∷ 0 ∷ 0 ∷ 0 ∷ 0 ∷ 0 ∷ 0 ∷ 0 ∷ 0 ∷ 0xF1 ∷ [] })

pub record ReportByExample : Type 0 where
  pub none : report_bytes [] ≡ []
  pub frame : report_bytes (plain_row Tick ∷ frame_row ∷ [])
      ≡ codes "0 3.000000 tick lease none\n"
      ++ codes "1 1234.000056 frame 1240 exts=2 net=ipv6 transport=tcp window=78-1234 incomplete=1 fragmented=0 stop=tcp"
      ++ codes " lease 192.168.1.42/24\n  sent arp-reply 42\n  sent arp-request 43\n  sent dns 3 2 71\n  sent dhcp 304\n"
  pub refused : report_bytes (query_row (line 7 (Refused NoFreeSlot) ∷ line 8 (Refused InvalidName)
      ∷ line 9 (Refused NameTooLong) ∷ []) ∷ plain_row Reset ∷ [])
      ≡ codes "0 2.999999 query lease 192.168.1.42/24\n  query 7 refused no-free-slot\n"
      ++ codes "  query 8 refused invalid-name\n  query 9 refused name-too-long\n1 3.000000 reset lease none\n"
  pub ended : report_bytes (query_row (line 10 Failed
      ∷ line 11 (Answered (record { items = answer ∷ long_answer ∷ [] })) ∷ []) ∷ [])
      ≡ codes "0 2.999999 query lease 192.168.1.42/24\n  query 10 failed\n"
      ++ codes "  query 11 answered 192.0.2.7,2001:0db8:0000:0000:0000:0000:0000:00f1\n"

-- what a frame is
pub record NotesByExample : Type 0 where
  pub nets : map net_text (net.None ∷ net.Ipv4 ∷ net.Ipv6 ∷ net.Arp ∷ [])
      ≡ codes "none" ∷ codes "ipv4" ∷ codes "ipv6" ∷ codes "arp" ∷ []
  pub transports : map transport_text
      (transport.None ∷ transport.Icmpv4 ∷ transport.Udp ∷ transport.Tcp ∷ transport.Icmpv6 ∷ [])
      ≡ codes "none" ∷ codes "icmpv4" ∷ codes "udp" ∷ codes "tcp" ∷ codes "icmpv6" ∷ []
  pub stops : map stop_text (None ∷ Some layer.IpAuthHeader ∷ []) ≡ codes "none" ∷ codes "auth" ∷ []

-- the status and the last line of each ending; a refusal of the output replaces both
pub record EndingsByExample : Type 0 where
  pub statuses : map status_of (end.Done ∷ end.Refused ∷ end.Script 9 ∷ end.Limit ∷ end.Entry 9 ∷ end.FrameLimit
      ∷ end.Read ∷ end.Capture ∷ end.NoMemory ∷ []) ≡ 0 ∷ 1 ∷ 2 ∷ 3 ∷ 2 ∷ 3 ∷ 4 ∷ 5 ∷ 7 ∷ []
  pub replaced : map (status_after end.Done) (Ok tt ∷ Err sink.Fault ∷ Err sink.NoMemory ∷ []) ≡ 0 ∷ 6 ∷ 7 ∷ []
  pub lines : map last_line (end.Done ∷ end.Script 1070 ∷ end.Limit ∷ end.Entry 24 ∷ end.FrameLimit ∷ end.Read
      ∷ end.Capture ∷ end.NoMemory ∷ [])
      ≡ codes "done\n" ∷ codes "script error at 1070\n" ∷ codes "event limit reached\n"
      ∷ codes "capture error at 24\n" ∷ codes "frame limit reached\n" ∷ codes "read fault\n"
      ∷ codes "capture fault\n" ∷ codes "no memory\n" ∷ []
