-- The link begins with the values of the bad link.
use Rattle.std.proofs.Common.{List, ap, subst, IfErr}
use Rattle.host_model.specs.Script.{Event}
use Rattle.net_host.specs.Outside.{outside_of}
use Rattle.net_host.specs.Run.{task_over, Leaves}
use Rattle.net_host.specs.Told.{told_by}
use Rattle.host_disturb.specs.declared.disturber.Disturber.{Disturber}
use Rattle.host_disturb.specs.Disturber.{makes_of}
use Rattle.host_disturb.proofs.disturbed_run.watch_disturbed.Goals as goal

pub returns-clause-leaves : goal.returns-clause-leaves
returns-clause-leaves g c =
    let P : (List Event → List Event) → Type 0 = λ link.
    IfErr c.run_over.result (Leaves (task_over link c.args.config.now c.args.words.now c.args.max_events)
    (outside_of g.S.ScriptSource g.C.ByteSink c.args.source.now c.args.capture.now)
    (outside_of g.S.ScriptSource g.C.ByteSink c.run_over.new.source c.run_over.new.capture) c.run_over.new.report) in
    subst P (ap (λ (link : Disturber). makes_of link (told_by c.args.config.now c.args.words.now)) c.new-link.ensures.value) c.run_over.ensures.leaves
