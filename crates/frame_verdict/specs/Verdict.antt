-- What becomes of a frame with a host: the first reason that fits, by the events before it.
use Rattle.std.specs.Prelude.{ℕ, ◌==◌, ◌||◌, Bool, not, List, Ok, Err, if◌then◌else◌}
use Rattle.net_wire.specs.Datagram.{Datagram}
use Rattle.net_wire.specs.DhcpRead.{message_at}
use Rattle.host_model.specs.Anchor.{anchor_before}
use Rattle.host_model.specs.Hearing.{ear_after, is_for_client}
use Rattle.host_model.specs.History.{Entry}
use Rattle.host_model.specs.Queries.{servers_before, slots_before}
use Rattle.host_model.specs.QueryAnswers.{after_response, is_from_dns}
use Rattle.host_model.specs.Settings.{Settings}
use Rattle.frame_verdict.specs.declared.verdict.Reason.TheVariants as reason
use Rattle.frame_verdict.specs.declared.verdict.Verdict.{Verdict}
use Rattle.frame_verdict.specs.declared.verdict.Verdict.TheVariants.{Ignored}
use Rattle.frame_verdict.specs.Brought.{Brought, brought_by}
use Rattle.frame_verdict.specs.MessageVerdict.{listener_by, verdict_of_message}
use Rattle.frame_verdict.specs.ResponseVerdict.{verdict_of_response}

-- the ports of name servers and of mDNS (RFC 1035, section 4.2; RFC 6762, section 2)
abbrev pub is_name_port : ℕ → Bool
is_name_port port = (port == 53) || (port == 5353)

-- a datagram goes to the DHCP client, or else to the DNS client
abbrev pub verdict_of_datagram : Settings → List Entry → Datagram → Verdict
verdict_of_datagram settings before datagram =
    if is_for_client settings.client datagram
    then verdict_of_message (listener_by (ear_after settings before) (anchor_before settings before))
    (message_at datagram.payload)
    else if not (is_name_port datagram.source_port) then Ignored reason.Port
    else if not (is_from_dns (servers_before settings before) datagram) then Ignored reason.Server
    else verdict_of_response (after_response datagram (slots_before settings before))

abbrev pub verdict_on_brought : Settings → List Entry → Brought → Verdict
verdict_on_brought settings before (Ok datagram) = verdict_of_datagram settings before datagram
verdict_on_brought settings before (Err verdict) = verdict

-- a frame that arrives behind these entries
abbrev pub verdict_of : Settings → List Entry → List ℕ → Verdict
verdict_of settings before frame = verdict_on_brought settings before (brought_by settings.hardware frame)
