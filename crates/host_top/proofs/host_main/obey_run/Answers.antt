-- The rows that were printed as they came, and the last line, are the whole report.
use Rattle.std.proofs.Common.{◌<◌, ◌^◌, ◌++◌, ◌∙◌, List, length, rules, subst, sym}
use Rattle.phy_layers.specs.Sink.{Took}
use Rattle.host_top.specs.declared.ending.Ending.{Ending}
use Rattle.host_top.specs.Ending.{last_line}
use Rattle.net_host.specs.declared.report.Row.{Row}
use Rattle.host_top.specs.ReportText.{report_bytes, row_text}
use Rattle.capture_explain.specs.Text.{Puts}
use Rattle.host_top.proofs.PrintedLemmas.{printed_whole, report_is}
use Rattle.host_top.proofs.host_main.obey_run.Goals as goal

pub returns-then-is_live-clause-took : goal.returns-then-is_live-clause-took
returns-then-is_live-clause-took g c =
    let rows = c.run_named-ending.new.report in
    let printer = c.run_named-ending.new.watcher in
    let P : Ending → Type 0 = λ ending.
    Took g.O.ByteSink.bytes g.O.ByteSink.faults g.O.ByteSink.grows c.end_rows.result.answer (report_bytes rows ++ last_line ending)
    c.args.out.now c.end_rows.new.out in
    let Q : g.row.O.Denot → Type 0 = λ out.
    Puts g.O.ByteSink.bytes g.O.ByteSink.faults g.O.ByteSink.grows printer.answer c.end_rows.result.answer (last_line c.run_named-ending.result)
    out c.end_rows.new.out in
    let few = subst (λ (l : List Row). length l < 2 ^ 64) c.rows.ensures c.end_rows.ensures.few in
    let handed_back = c.out-1.given.1 (sym c.new-printer.ensures.same ∙ sym c.run_named-ending.ensures.seen.same) in
    subst P (sym c.end_rows.ensures.ending)
    (printed_whole g.O.ByteSink row_text c.new-printer.result printer rows (report_bytes rows) (last_line c.run_named-ending.result) c.args.out.now
    c.end_rows.new.out c.end_rows.result.answer (report_is rows) c.run_named-ending.ensures.seen few c.new-printer.ensures.number
    c.new-printer.ensures.answer c.new-printer.ensures.out (search rules) (subst Q handed_back c.end_rows.ensures.puts))
