use Rattle.std.proofs.Common.{ℕ, List}
use Rattle.capture_explain.specs.Text.{Puts}
use Rattle.script_text.specs.Shown.{PutsEvents}
use Rattle.host_top.proofs.ShownLemmas.{shows_as}
use Rattle.host_top.proofs.show_command.show_named.Goals as goal

pub returns : goal.returns
returns g c =
    let source = g.S.ScriptSource in
    let Handed : List ℕ → Type 0 = λ lines.
    Puts g.O.ByteSink.bytes g.O.ByteSink.faults g.O.ByteSink.grows c.args.written.now c.show-answer.new.written lines
    c.args.out.now c.show-answer.new.out in
    shows_as c.args.command.now.max_events (source.left c.args.source.now) (source.left c.show-answer.new.source) Handed
    (PutsEvents g.O.ByteSink c.args.written.now c.show-answer.new.written c.args.out.now c.show-answer.new.out) (λ told puts. puts.puts)
    (source.faults c.args.source.now) (source.faults c.show-answer.new.source) c.show-answer.result
    c.ending_shown.result c.ending_shown.ensures c.show-answer.ensures.shown c.show-answer.ensures.quiet
    c.show-answer.ensures.leaves c.show-answer.ensures.cause c.show-answer.ensures.complete
