-- The events so far were read and answered.
use Rattle.std.proofs.Common.{◌≡◌, ◌≤◌, pos, false, IfSome}
use Rattle.dns_client.specs.Client.{client_of}
use Rattle.net_host.specs.Moments.{IsFrom}
use Rattle.net_host.specs.Neighbors.{pair_count, place_count}
use Rattle.net_host.specs.Outside.{outside_of, IsQuiet}
use Rattle.net_host.specs.Polling.{IsReady}
use Rattle.net_host.specs.QueryPolling.{AreLent}
use Rattle.net_host.specs.QueryReady.{HoldsQueries}
use Rattle.net_host.specs.Run.{task_over}
use Rattle.net_host.specs.Told.{told_by}
use Rattle.net_host.proofs.ProgressLemmas.{Progress}
use Rattle.net_host.proofs.run_script.run_over.Given as goal

abbrev pub invariant-loop-count : goal.invariant-loop-count
invariant-loop-count g l =
    let before = outside_of g.S.ScriptSource g.C.ByteSink l.fn.source l.fn.capture in
    let now = outside_of g.S.ScriptSource g.C.ByteSink l.source l.capture in
    record {
      progress : Progress (task_over (g.L.Link.makes l.fn.link (told_by l.config l.words)) l.config l.words l.max_events)
          (g.L.Link.makes l.link) before now l.reader l.host l.report;
      seen : g.W.Watcher.sees l.fn.watcher l.report l.watcher;
      quiet : IsQuiet before now;
      counted : l.reader.events ≡ l.count;
      within : l.count ≤ l.max_events;
      goes_on : l.reader.is_through ≡ false;
      limit : IfSome l.reader.max_events (λ max. max ≡ l.max_events);
      ready : IsReady l.host.dhcp l.host.ip_mtu;
      order : IsFrom l.host.last (pos l.reader.last);
      places : place_count l.host.out.neighbors ≡ l.max_events;
      few : pair_count l.host.out.neighbors ≤ l.count;
      lent : AreLent (client_of l.host.dns);
      holds : HoldsQueries l.host;
      queries : l.host.queries ≤ l.count;
      most : l.max_events ≤ 10000;
    }
