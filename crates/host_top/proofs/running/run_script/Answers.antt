use Rattle.std.proofs.Common.{◌*◌, length, ap, ◌∙◌}
use Rattle.net_host.specs.Outside.{outside_of}
use Rattle.net_host.specs.Run.{task_of}
use Rattle.host_top.proofs.EndingLemmas.{never_short}
use Rattle.host_top.proofs.RanLemmas.{same_task, ran}
use Rattle.host_top.proofs.WordLemmas.{length-first_words}
use Rattle.host_top.proofs.running.run_script.Goals as goal

pub ending_of-requires : goal.ending_of-requires
ending_of-requires g c =
    let max = c.args.command.now.max_events in
    let counted = ap length c.requires.words ∙ length-first_words c.args.command.now.seed (3 * max) in
    record {
      words = λ same. never_short (task_of c.config_of-config.result c.args.words.now max)
          (outside_of g.S.ScriptSource g.C.ByteSink c.args.script.now c.args.capture.now) counted (rw same at c.in-Err.ensures.cause).0;
    }

pub returns-in-Err-clause-ran : goal.returns-in-Err-clause-ran
returns-in-Err-clause-ran g c =
    let command = c.args.command.now in
    let same = same_task command c.config_of-config.result c.args.words.now c.config_of-config.ensures c.requires.words in
    let before = outside_of g.S.ScriptSource g.C.ByteSink c.args.script.now c.args.capture.now in
    let after = outside_of g.S.ScriptSource g.C.ByteSink c.run_over.new.source c.run_over.new.capture in
    c.ending_of.ensures _ before after c.run_over.new.report
    (ran command (task_of c.config_of-config.result c.args.words.now command.max_events) before after c.run_over.new.report _ same
    c.in-Err.ensures.leaves c.in-Err.ensures.cause)
