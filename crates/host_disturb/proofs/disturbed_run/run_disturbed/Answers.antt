-- What a run over a bad link reports counts its queries, whatever it answered.
use Rattle.net_host.specs.Outside.{outside_of}
use Rattle.net_host.specs.Run.{task_over}
use Rattle.net_host.proofs.CountedLemmas.{run_counts}
use Rattle.host_disturb.specs.Disturbed.{disturbed}
use Rattle.host_disturb.proofs.SpelledLemmas.{keeps_order}
use Rattle.host_disturb.proofs.disturbed_run.run_disturbed.Goals as goal

pub returns-clause-queries : goal.returns-clause-queries
returns-clause-queries g c =
    run_counts (task_over (disturbed c.args.faults.now) c.args.config.now c.args.words.now c.args.max_events)
    (outside_of g.S.ScriptSource g.C.ByteSink c.args.source.now c.args.capture.now)
    (outside_of g.S.ScriptSource g.C.ByteSink c.watch_disturbed.new.source c.watch_disturbed.new.capture) c.watch_disturbed.new.report
    c.watch_disturbed.result (keeps_order c.args.faults.now) c.watch_disturbed.ensures.finished c.watch_disturbed.ensures.leaves
