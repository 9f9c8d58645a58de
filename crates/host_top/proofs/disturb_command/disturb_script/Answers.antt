use Rattle.std.proofs.Common.{◌*◌, length, ap, ◌∙◌}
use Rattle.net_host.specs.Outside.{outside_of}
use Rattle.net_host.specs.Run.{task_over}
use Rattle.host_disturb.specs.Disturbed.{disturbed}
use Rattle.host_top.proofs.DisturbLemmas.{same_disturbed, disturbed_ran}
use Rattle.host_top.proofs.EndingLemmas.{never_short}
use Rattle.host_top.proofs.WordLemmas.{length-first_words}
use Rattle.host_top.proofs.disturb_command.disturb_script.Goals as goal

pub ending_of-requires : goal.ending_of-requires
ending_of-requires g c =
    let run = c.args.command.now.run in
    let counted = ap length c.requires.words ∙ length-first_words run.seed (3 * run.max_events) in
    record {
      words = λ same. never_short (task_over (disturbed c.faults_of-faults.result) c.config_of-config.result c.args.words.now run.max_events)
          (outside_of g.S.ScriptSource g.C.ByteSink c.args.script.now c.args.capture.now) counted (rw same at c.in-Err.ensures.cause).0;
    }

pub returns-in-Err-clause-ran : goal.returns-in-Err-clause-ran
returns-in-Err-clause-ran g c =
    let command = c.args.command.now in
    let same = same_disturbed command c.faults_of-faults.result c.config_of-config.result c.args.words.now c.faults_of-faults.ensures
    c.config_of-config.ensures c.requires.words in
    let before = outside_of g.S.ScriptSource g.C.ByteSink c.args.script.now c.args.capture.now in
    let after = outside_of g.S.ScriptSource g.C.ByteSink c.watch_disturbed.new.source c.watch_disturbed.new.capture in
    c.ending_of.ensures _ before after c.watch_disturbed.new.report
    (disturbed_ran command (task_over (disturbed c.faults_of-faults.result) c.config_of-config.result c.args.words.now command.run.max_events)
    before after c.watch_disturbed.new.report _ same c.in-Err.ensures.leaves c.in-Err.ensures.cause)
