use Rattle.std.proofs.Common.{refl}
use Rattle.net_host.specs.Outside.{outside_of}
use Rattle.net_host.proofs.RefusedLemmas.{nothing_run}
use Rattle.host_top.specs.Disturb.{task_disturbed}
use Rattle.host_top.proofs.disturb_command.run_over_bad_link.Goals as goal

pub returns-in-Err-clause-ran : goal.returns-in-Err-clause-ran
returns-in-Err-clause-ran g c =
    let before = outside_of g.S.ScriptSource g.C.ByteSink c.args.script.now c.args.capture.now in (
      nothing_run (task_disturbed c.args.command.now) before c.args.report.now refl c.requires.empty,
      record { source = refl; capture = refl },
    )
