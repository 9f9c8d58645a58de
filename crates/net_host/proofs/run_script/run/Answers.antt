-- What a run reports counts its queries, whatever it answered.
use Rattle.net_host.specs.Outside.{outside_of}
use Rattle.net_host.specs.Run.{task_of}
use Rattle.net_host.proofs.CountedLemmas.{run_counts}
use Rattle.net_host.proofs.run_script.run.Goals as goal

pub returns-clause-queries : goal.returns-clause-queries
returns-clause-queries g c =
    run_counts (task_of c.args.config.now c.args.words.now c.args.max_events)
    (outside_of g.S.ScriptSource g.C.ByteSink c.args.source.now c.args.capture.now)
    (outside_of g.S.ScriptSource g.C.ByteSink c.run_over.new.source c.run_over.new.capture) c.run_over.new.report c.run_over.result
    (λ events in_order. in_order) c.run_over.ensures.finished c.run_over.ensures.leaves
