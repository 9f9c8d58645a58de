use Rattle.std.proofs.Common.{List, sym, subst, refl}
use Rattle.net_host.specs.declared.report.Row.{Row}
use Rattle.net_host.specs.Outside.{outside_of}
use Rattle.net_host.proofs.RefusedLemmas.{nothing_run}
use Rattle.host_top.specs.Ran.{task_named}
use Rattle.host_top.proofs.running.run_named.Goals as goal

pub returns-in-Err : goal.returns-in-Err
returns-in-Err g c =
    let before = outside_of g.S.ScriptSource g.C.ByteSink c.args.script.now c.args.capture.now in
    let P : List Row → Type 0 = λ rows. g.W.Watcher.sees c.args.watcher.now rows c.args.watcher.now in
    record {
      ran = (
        nothing_run (task_named c.args.command.now) before c.args.report.now refl c.requires.empty,
        record { source = refl; capture = refl },
      );
      seen = subst P (sym c.requires.empty) (g.met.W.Watcher.starts c.args.watcher.now);
    }
