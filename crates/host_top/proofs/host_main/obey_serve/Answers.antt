-- The rows that were printed as they came, and the last line, are the whole report.
use Rattle.std.proofs.Common.{◌<◌, ◌^◌, ◌++◌, ◌∙◌, List, length, rules, subst, sym}
use Rattle.phy_layers.specs.Sink.{Took}
use Rattle.host_top.specs.declared.ending.Ending.{Ending}
use Rattle.host_top.specs.Ending.{last_line}
use Rattle.server_run.specs.declared.report.ServeRow.{ServeRow}
use Rattle.net_host.specs.Outside.{outside_of}
use Rattle.host_top.specs.Serve.{ServesAs}
use Rattle.host_top.specs.ServeText.{serve_bytes, served_text}
use Rattle.capture_explain.specs.Text.{Puts}
use Rattle.host_top.proofs.PrintedLemmas.{printed_whole, served_is}
use Rattle.host_top.proofs.host_main.obey_serve.Goals as goal

pub returns-then-is_live : goal.returns-then-is_live
returns-then-is_live g c =
    let before = outside_of g.S.ScriptSource g.C.ByteSink c.args.script.now c.args.capture.now in
    let after = outside_of g.S.ScriptSource g.C.ByteSink c.serve_named-ending.new.script c.serve_named-ending.new.capture in
    let rows = c.serve_named-ending.new.report in
    let printer = c.serve_named-ending.new.watcher in
    let P : Ending → Type 0 = λ ending.
    Took g.O.ByteSink.bytes g.O.ByteSink.faults g.O.ByteSink.grows c.end_rows.result.answer (serve_bytes rows ++ last_line ending)
    c.args.out.now c.end_rows.new.out in
    let Q : g.row.O.Denot → Type 0 = λ out.
    Puts g.O.ByteSink.bytes g.O.ByteSink.faults g.O.ByteSink.grows printer.answer c.end_rows.result.answer (last_line c.serve_named-ending.result)
    out c.end_rows.new.out in
    let few = subst (λ (l : List ServeRow). length l < 2 ^ 64) c.rows.ensures c.end_rows.ensures.few in
    let handed_back = c.out-1.given.1 (sym c.new-printer.ensures.same ∙ sym c.serve_named-ending.ensures.seen.same) in
    let S : Ending → Type 0 = λ ending. ServesAs c.args.command.now before after rows ending in
    let took = printed_whole g.O.ByteSink served_text c.new-printer.result printer rows (serve_bytes rows) (last_line c.serve_named-ending.result) c.args.out.now
    c.end_rows.new.out c.end_rows.result.answer (served_is rows) c.serve_named-ending.ensures.seen few c.new-printer.ensures.number
    c.new-printer.ensures.answer c.new-printer.ensures.out (search rules) (subst Q handed_back c.end_rows.ensures.puts) in
    record {
      served = (rows, subst S (sym c.end_rows.ensures.ending) c.serve_named-ending.ensures.served, subst P (sym c.end_rows.ensures.ending) took);
    }
