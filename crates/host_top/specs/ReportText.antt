-- The text of a report.
use Rattle.std.specs.Prelude.{ℕ, ◌/◌, ◌%◌, Bool, true, false, List, [], ◌++◌, length, codes, Option, Some, None}
use Rattle.std.specs.Fmt.{decimal}
use Rattle.std.specs.List.{flat_map, enumerate_from}
use Rattle.ether_link.specs.Texts.{layer_word}
use Rattle.ether_link.specs.declared.err.layers.Layer.{Layer}
use Rattle.ether_lax.specs.declared.note.FrameNote.{FrameNote}
use Rattle.ether_lax.specs.declared.note.NetKind.{NetKind}
use Rattle.ether_lax.specs.declared.note.NetKind.TheVariants as net
use Rattle.ether_lax.specs.declared.note.TransportKind.{TransportKind}
use Rattle.ether_lax.specs.declared.note.TransportKind.TheVariants as transport
use Rattle.net_wire.specs.declared.address.Ipv4Cidr.{Ipv4Cidr}
use Rattle.net_host.specs.declared.report.Row.{Row}
use Rattle.net_host.specs.declared.report.Sent.{Sent}
use Rattle.net_host.specs.declared.report.Kind.{Kind}
use Rattle.net_host.specs.declared.report.Kind.TheVariants.{Tick, Reset, Frame, Query}
use Rattle.net_host.specs.declared.report.Mark.{Mark}
use Rattle.net_host.specs.declared.report.Mark.TheVariants.{Dhcp, Dns, ArpReply, ArpRequest}
use Rattle.phy_layers.specs.PcapBytes.{epoch_micros}
use Rattle.host_top.specs.AddressText.{address_text}
use Rattle.host_top.specs.QueryText.{query_line}
use Rattle.capture_explain.specs.Text.{six_digits}

-- a time in seconds, with six digits behind the point
abbrev pub time_text : ℕ → List ℕ
time_text micros = decimal (micros / 1000000) ++ codes "." ++ six_digits (micros % 1000000)

abbrev pub kind_text : Kind → List ℕ
kind_text Tick = codes "tick"
kind_text Reset = codes "reset"
kind_text Query = codes "query"
kind_text (Frame length) = codes "frame " ++ decimal length

-- an address and its prefix, as in 192.168.1.42/24 (RFC 4632, section 3.1)
abbrev pub lease_text : Option Ipv4Cidr → List ℕ
lease_text None = codes "none"
lease_text (Some cidr) = address_text cidr.address ++ codes "/" ++ decimal cidr.prefix_len

abbrev pub net_text : NetKind → List ℕ
net_text net.None = codes "none"
net_text net.Ipv4 = codes "ipv4"
net_text net.Ipv6 = codes "ipv6"
net_text net.Arp = codes "arp"

abbrev pub transport_text : TransportKind → List ℕ
transport_text transport.None = codes "none"
transport_text transport.Icmpv4 = codes "icmpv4"
transport_text transport.Udp = codes "udp"
transport_text transport.Tcp = codes "tcp"
transport_text transport.Icmpv6 = codes "icmpv6"

-- 0 for no, 1 for yes
abbrev pub flag_text : Bool → List ℕ
flag_text false = codes "0"
flag_text true = codes "1"

-- the word of the layer at which the dissection stopped
abbrev pub stop_text : Option Layer → List ℕ
stop_text None = codes "none"
stop_text (Some layer) = layer_word layer

-- what is noted of a frame that arrived: how many link extensions it has, its network and transport layer,
-- the window of its last part, whether bytes are missing or it carries a fragment, and where the dissection
-- stopped
abbrev pub found_text : FrameNote → List ℕ
found_text note =
    codes " exts=" ++ decimal note.exts ++ codes " net=" ++ net_text note.net
    ++ codes " transport=" ++ transport_text note.transport
    ++ codes " window=" ++ decimal note.start ++ codes "-" ++ decimal note.end
    ++ codes " incomplete=" ++ flag_text note.incomplete ++ codes " fragmented=" ++ flag_text note.fragmented
    ++ codes " stop=" ++ stop_text note.stop

abbrev pub note_text : Option FrameNote → List ℕ
note_text None = []
note_text (Some note) = found_text note

-- the line of an event: the number of the row, the time, the kind, what is noted of a frame, and the lease
abbrev pub event_line : ℕ → Row → List ℕ
event_line number row =
    decimal number ++ codes " " ++ time_text (epoch_micros row.at) ++ codes " " ++ kind_text row.kind
    ++ note_text row.note ++ codes " lease " ++ lease_text row.lease ++ codes "\n"

-- what a frame is for; a message of a query has the query's number, and its place in the list of name servers
abbrev pub mark_text : Mark → List ℕ
mark_text Dhcp = codes "dhcp"
mark_text (Dns query place) = codes "dns " ++ decimal query ++ codes " " ++ decimal place
mark_text ArpReply = codes "arp-reply"
mark_text ArpRequest = codes "arp-request"

-- the line of a sent frame: what it is for, and its length in bytes
abbrev pub sent_line : Sent → List ℕ
sent_line sent = codes "  sent " ++ mark_text sent.mark ++ codes " " ++ decimal (length sent.frame) ++ codes "\n"

-- a row: the line of the event, then one for each sent frame, and then one for each query that was refused or ended
abbrev pub row_text : ℕ × Row → List ℕ
row_text numbered =
    event_line numbered.0 numbered.1 ++ flat_map sent_line numbered.1.sent ++ flat_map query_line numbered.1.lines

-- a report: its rows, which are counted from 0
unfoldable pub report_bytes : List Row → List ℕ
report_bytes rows = flat_map row_text (enumerate_from 0 rows)
