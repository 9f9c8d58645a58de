use Rattle.std.proofs.Common.{ap}
use Rattle.std.specs.List.{flat_map}
use Rattle.host_top.specs.QueryText.{query_line}
use Rattle.host_top.specs.ReportText.{sent_line}
use Rattle.host_top.proofs.TextLemmas.{puts_then, puts_same}
use Rattle.host_top.proofs.report_text.put_row.Goals as goal

pub returns : goal.returns
returns g c = puts_then
    (puts_then c.put_event.ensures (puts_same c.put_sent.ensures (ap (flat_map sent_line) c.as_slice.ensures)))
    (puts_same c.put_lines.ensures (ap (flat_map query_line) c.as_slice-2.ensures))
