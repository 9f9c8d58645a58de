use Rattle.std.proofs.Common.{ℕ, List}
use Rattle.capture_explain.specs.Text.{Puts}
use Rattle.host_top.proofs.LineLemmas.{prints_as}
use Rattle.host_top.proofs.capture_command.print_named.Goals as goal

pub returns : goal.returns
returns g c =
    let source = g.S.ScriptSource in
    let Handed : List ℕ → Type 0 = λ lines.
    Puts g.O.ByteSink.bytes g.O.ByteSink.faults g.O.ByteSink.grows c.args.written.now c.print_capture-answer.new.written lines
    c.args.out.now c.print_capture-answer.new.out in
    prints_as c.args.command.now.max_frames (source.left c.args.source.now) (source.left c.print_capture-answer.new.source) Handed
    (source.faults c.args.source.now) (source.faults c.print_capture-answer.new.source) c.print_capture-answer.result
    c.ending_explained.result c.ending_explained.ensures c.print_capture-answer.ensures.printed c.print_capture-answer.ensures.quiet
    c.print_capture-answer.ensures.leaves c.print_capture-answer.ensures.cause c.print_capture-answer.ensures.complete
