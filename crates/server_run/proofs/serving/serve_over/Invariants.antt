-- The events so far were read and served.
use Rattle.std.proofs.Common.{◌≡◌, ◌≤◌, false, IfSome}
use Rattle.lease_server.specs.Values.{values_of}
use Rattle.net_host.specs.Outside.{outside_of, IsQuiet}
use Rattle.server_run.proofs.ProgressLemmas.{Progress}
use Rattle.server_run.proofs.serving.serve_over.Given as goal

abbrev pub invariant-loop : goal.invariant-loop
invariant-loop g l =
    let before = outside_of g.S.ScriptSource g.C.ByteSink l.fn.source l.fn.capture in
    let now = outside_of g.S.ScriptSource g.C.ByteSink l.source l.capture in
    record {
      progress : Progress (values_of l.values) l.max_events before now l.reader l.server l.report;
      seen : g.W.ServeWatcher.sees l.fn.watcher l.report l.watcher;
      quiet : IsQuiet before now;
      counted : l.reader.events ≡ l.counter;
      within : l.counter ≤ l.max_events;
      goes_on : l.reader.is_through ≡ false;
      limit : IfSome l.reader.max_events (λ max. max ≡ l.max_events);
    }
