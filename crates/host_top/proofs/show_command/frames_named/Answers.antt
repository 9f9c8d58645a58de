use Rattle.std.proofs.Common.{ℕ, List}
use Rattle.capture_explain.specs.Text.{Puts}
use Rattle.script_text.specs.ShownFrames.{PutsFrames}
use Rattle.host_top.proofs.ShownLemmas.{frames_as}
use Rattle.host_top.proofs.show_command.frames_named.Goals as goal

pub returns : goal.returns
returns g c =
    let source = g.S.ScriptSource in
    let Handed : List ℕ → Type 0 = λ lines.
    Puts g.O.ByteSink.bytes g.O.ByteSink.faults g.O.ByteSink.grows c.args.written.now c.frames-answer.new.written lines
    c.args.out.now c.frames-answer.new.out in
    frames_as c.args.command.now.max_events (source.left c.args.source.now) (source.left c.frames-answer.new.source) Handed
    (PutsFrames g.O.ByteSink c.args.written.now c.frames-answer.new.written c.args.out.now c.frames-answer.new.out) (λ told puts. puts.puts)
    (source.faults c.args.source.now) (source.faults c.frames-answer.new.source) c.frames-answer.result
    c.ending_explained.result c.ending_explained.ensures c.frames-answer.ensures.shown c.frames-answer.ensures.quiet
    c.frames-answer.ensures.leaves c.frames-answer.ensures.cause c.frames-answer.ensures.complete
