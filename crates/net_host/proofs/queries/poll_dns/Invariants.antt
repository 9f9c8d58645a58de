-- What polling goes on to do from here, polling did from the start.
use Rattle.dns_client.specs.Client.{Client, client_of}
use Rattle.net_host.specs.declared.emitter.Emitter.{Emitter}
use Rattle.net_host.specs.QueryPolling.{PolledQueries, AreLent}
use Rattle.net_host.specs.QueryReady.{AreStanding}
use Rattle.net_host.specs.Report.{AreCapturable}
use Rattle.net_host.proofs.QueryOpenLemmas.{calls_left}
use Rattle.net_host.proofs.queries.poll_dns.Given as goal

abbrev pub invariant-loop-now : goal.invariant-loop-now
invariant-loop-now l = record {
  standing : AreStanding (client_of l.dns);
  lent : AreLent (client_of l.fn.dns) → AreLent (client_of l.dns);
  small : AreCapturable l.fn.out.sent → AreCapturable l.out.sent;
  value : (last : Client) (later : Emitter)
      → PolledQueries l.now (client_of l.dns) l.out last later
      → PolledQueries l.now (client_of l.fn.dns) l.fn.out last later;
}

-- how many dispatches are left
abbrev pub decreases-loop-now : goal.decreases-loop-now
decreases-loop-now l = calls_left l.now (client_of l.dns) l.out
