-- The summary of a report, in one line.
use Rattle.std.specs.Prelude.{ℕ, ◌-◌, Bool, true, false, List, ◌++◌, length, slice_get, codes, Option, option_and_then}
use Rattle.std.specs.Fmt.{decimal}
use Rattle.std.specs.List.{filter, flat_map}
use Rattle.net_wire.specs.declared.address.Ipv4Cidr.{Ipv4Cidr}
use Rattle.host_model.specs.declared.query_line.Outcome.{Outcome}
use Rattle.host_model.specs.declared.query_line.Outcome.TheVariants.{Answered, Failed}
use Rattle.host_model.specs.declared.query_line.QueryLine.{QueryLine}
use Rattle.net_host.specs.declared.report.Kind.{Kind}
use Rattle.net_host.specs.declared.report.Kind.TheVariants.{Tick, Reset, Frame, Query}
use Rattle.net_host.specs.declared.report.Mark.{Mark}
use Rattle.net_host.specs.declared.report.Mark.TheVariants.{Dhcp, Dns, ArpReply, ArpRequest}
use Rattle.net_host.specs.declared.report.Row.{Row}
use Rattle.net_host.specs.declared.report.Sent.{Sent}
use Rattle.host_top.specs.declared.summary.Purpose.{Purpose}
use Rattle.host_top.specs.declared.summary.Purpose.TheVariants as purpose
use Rattle.host_top.specs.declared.summary.End.{End}
use Rattle.host_top.specs.declared.summary.End.TheVariants as end
use Rattle.host_top.specs.ReportText.{lease_text}

-- how many of the items are so
abbrev pub count_of : {X : Type 0} → (X → Bool) → List X → ℕ
count_of is items = length (filter is items)

-- a frame arrived in the event
abbrev pub is_arrived : Kind → Bool
is_arrived Tick = false
is_arrived Reset = false
is_arrived Query = false
is_arrived (Frame length) = true

-- a frame that is marked so was sent for the purpose: ARP replies and requests have one
abbrev pub is_for : Purpose → Mark → Bool
is_for purpose.Dhcp Dhcp = true
is_for purpose.Dns (Dns query place) = true
is_for purpose.Arp ArpReply = true
is_for purpose.Arp ArpRequest = true
is_for purpose mark = false

-- a query ended so
abbrev pub is_end : End → Outcome → Bool
is_end end.Answered (Answered addresses) = true
is_end end.Failed Failed = true
is_end one outcome = false

-- the frames that were sent in all events, and what became of queries
abbrev pub all_sent : List Row → List Sent
all_sent rows = flat_map (λ row. row.sent) rows

abbrev pub all_lines : List Row → List QueryLine
all_lines rows = flat_map (λ row. row.lines) rows

abbrev pub sent_for : Purpose → List Row → ℕ
sent_for purpose rows = count_of (λ sent. is_for purpose sent.mark) (all_sent rows)

abbrev pub ended_as : End → List Row → ℕ
ended_as end rows = count_of (λ line. is_end end line.outcome) (all_lines rows)

-- what is leased in the last event
abbrev pub last_lease : List Row → Option Ipv4Cidr
last_lease rows = option_and_then (λ row. row.lease) (slice_get rows (length rows - 1))

abbrev pub summary_text : List Row → List ℕ
summary_text rows =
    codes "events " ++ decimal (length rows)
    ++ codes " arrived " ++ decimal (count_of (λ row. is_arrived row.kind) rows)
    ++ codes " dhcp " ++ decimal (sent_for purpose.Dhcp rows)
    ++ codes " dns " ++ decimal (sent_for purpose.Dns rows)
    ++ codes " arp " ++ decimal (sent_for purpose.Arp rows)
    ++ codes " answered " ++ decimal (ended_as end.Answered rows)
    ++ codes " failed " ++ decimal (ended_as end.Failed rows)
    ++ codes " last " ++ lease_text (last_lease rows) ++ codes "\n"
