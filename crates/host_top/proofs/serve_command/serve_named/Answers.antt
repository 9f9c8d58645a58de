use Rattle.std.proofs.Common.{◌∙◌, OnOk, IfErr, ap, subst}
use Rattle.net_host.specs.Outside.{outside_of}
use Rattle.lease_server.specs.Values.{Values, refused}
use Rattle.server_run.specs.Served.{Finished, Leaves}
use Rattle.host_top.proofs.serve_command.serve_named.Goals as goal

pub serve_over-answer-requires-clause-checked : goal.serve_over-answer-requires-clause-checked
serve_over-answer-requires-clause-checked g c =
    ap refused c.values_of-values.ensures ∙ c.requires.servable.accepted

pub returns-clause-served : goal.returns-clause-served
returns-clause-served g c =
    let before = outside_of g.S.ScriptSource g.C.ByteSink c.args.script.now c.args.capture.now in
    let after = outside_of g.S.ScriptSource g.C.ByteSink c.serve_over-answer.new.source c.serve_over-answer.new.capture in
    let rows = c.serve_over-answer.new.report in
    let max = c.args.command.now.max_events in
    let P : Values → Type 0 = λ values. OnOk c.serve_over-answer.result (Finished values max before after rows) in
    let Q : Values → Type 0 = λ values. IfErr c.serve_over-answer.result (Leaves values max before after rows) in
    record {
      answer = c.serve_over-answer.result;
      ends = c.ending_served.ensures;
      finished = subst P c.values_of-values.ensures c.serve_over-answer.ensures.finished;
      quiet = c.serve_over-answer.ensures.quiet;
      leaves = subst Q c.values_of-values.ensures c.serve_over-answer.ensures.leaves;
      cause = c.serve_over-answer.ensures.cause;
    }
