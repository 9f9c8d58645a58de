use Rattle.std.proofs.Common.{List, ap, subst}
use Rattle.std.specs.Fmt.{decimal}
use Rattle.net_host.specs.declared.report.Row.{Row}
use Rattle.host_top.specs.ReportText.{lease_text}
use Rattle.host_top.specs.Summary.{summary_text}
use Rattle.capture_explain.specs.Text.{Puts}
use Rattle.host_top.proofs.TextLemmas.{puts_then, puts_same}
use Rattle.host_top.proofs.summary.put_summary.Goals as goal

pub returns : goal.returns
returns g c =
    let P : List Row → Type 0 = λ rows.
    Puts g.O.ByteSink.bytes g.O.ByteSink.faults g.O.ByteSink.grows c.args.answer.now c.put-9.new.answer (summary_text rows) c.args.out.now c.put-9.new.out in
    subst P c.rows-rows.ensures
    (puts_then (puts_then (puts_then (puts_then (puts_then (puts_then (puts_then (puts_then (puts_then (puts_then (puts_then (puts_then (puts_then (puts_then (puts_then (puts_then c.put.ensures
    c.put_number.ensures)
    c.put-2.ensures)
    (puts_same c.put_number-2.ensures (ap decimal c.arrived_in.ensures)))
    c.put-3.ensures)
    (puts_same c.put_large_number.ensures (ap decimal c.sent_in.ensures)))
    c.put-4.ensures)
    (puts_same c.put_large_number-2.ensures (ap decimal c.sent_in-2.ensures)))
    c.put-5.ensures)
    (puts_same c.put_large_number-3.ensures (ap decimal c.sent_in-3.ensures)))
    c.put-6.ensures)
    (puts_same c.put_large_number-4.ensures (ap decimal c.ended_in.ensures)))
    c.put-7.ensures)
    (puts_same c.put_large_number-5.ensures (ap decimal c.ended_in-2.ensures)))
    c.put-8.ensures)
    (puts_same c.put_lease.ensures (ap lease_text c.last_lease.ensures)))
    c.put-9.ensures)
