-- One dispatch more; the end, where no query is due; and where one waits for a hop.
use Rattle.std.proofs.Common.{ap, sym, subst, ◌∙◌}
use Rattle.dns_client.specs.Client.{client_of}
use Rattle.net_host.specs.QueryPolling.{IsQuiet, GoesOn, Waits, is_reached, AreLent}
use Rattle.net_host.proofs.QueryEndingLemmas.{dispatched_once, dispatched_small}
use Rattle.net_host.proofs.queries.poll_dns.Goals as goal

pub loop-now-preserved : goal.loop-now-preserved
loop-now-preserved c =
    let due = ap (λ due. is_reached due c.args.now) (sym c.poll_at.ensures.value) ∙ sym c.is_reached.ensures ∙ c.loop-now-test.true in
    record {
      standing = (dispatched_once c.args.now (client_of c.loop-now.dns) (client_of c.dispatch.new.self) c.loop-now.out c.dispatch.new.out
          c.requires.time c.loop-now.invariant.standing due (record { walks = c.in-Ok.ensures.value; others = c.dispatch.ensures.others })).standing;
      lent = λ lent. subst AreLent (sym c.dispatch.ensures.others) (c.loop-now.invariant.lent lent);
      small = λ small. dispatched_small c.args.now (client_of c.loop-now.dns) (client_of c.dispatch.new.self) c.loop-now.out c.dispatch.new.out
          (record { walks = c.in-Ok.ensures.value; others = c.dispatch.ensures.others }) (c.loop-now.invariant.small small);
      value = λ last later goes_on. c.loop-now.invariant.value last later
          (GoesOn c.args.now (client_of c.loop-now.dns) (client_of c.dispatch.new.self) last c.loop-now.out c.dispatch.new.out later
          due (record { walks = c.in-Ok.ensures.value; others = c.dispatch.ensures.others }) goes_on);
    }

pub loop-now-smaller : goal.loop-now-smaller
loop-now-smaller c =
    (dispatched_once c.args.now (client_of c.loop-now.dns) (client_of c.dispatch.new.self) c.loop-now.out c.dispatch.new.out
    c.requires.time c.loop-now.invariant.standing
    (ap (λ due. is_reached due c.args.now) (sym c.poll_at.ensures.value) ∙ sym c.is_reached.ensures ∙ c.loop-now-test.true)
    (record { walks = c.in-Ok.ensures.value; others = c.dispatch.ensures.others })).fewer

pub returns-clause-value : goal.returns-clause-value
returns-clause-value c =
    c.loop-now.invariant.value (client_of c.loop-now.dns) c.loop-now.out
    (IsQuiet c.args.now (client_of c.loop-now.dns) c.loop-now.out
    (ap (λ due. is_reached due c.args.now) (sym c.poll_at.ensures.value) ∙ sym c.is_reached.ensures ∙ c.loop-now-test.false))

pub returns-in-Err-Unresolved-clause-value : goal.returns-in-Err-Unresolved-clause-value
returns-in-Err-Unresolved-clause-value c =
    let walks = rw c.in-Err-Unresolved.field-0-is at c.in-Err-Unresolved.ensures.value in
    c.loop-now.invariant.value (client_of c.dispatch.new.self) c.dispatch.new.out
    (Waits c.args.now (client_of c.loop-now.dns) (client_of c.dispatch.new.self) c.loop-now.out c.dispatch.new.out
    (ap (λ due. is_reached due c.args.now) (sym c.poll_at.ensures.value) ∙ sym c.is_reached.ensures ∙ c.loop-now-test.true)
    (record { walks = walks; others = c.dispatch.ensures.others }))
