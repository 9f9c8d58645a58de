-- One dispatch more; the end, where the client is not due; and where it waits for a hop.
use Rattle.net_host.specs.Emitter.{TakesMessage, RefusesMessage}
use Rattle.net_host.specs.Polling.{IsQuiet, GoesOn, Waits}
use Rattle.net_host.proofs.PollingLemmas.{before_last, le_of_test, lt_of_test}
use Rattle.net_host.proofs.ReadyLemmas.{dispatch_ready, dispatch_fewer}
use Rattle.net_host.proofs.clients.poll_dhcp.Goals as goal

pub loop-dhcp-preserved : goal.loop-dhcp-preserved
loop-dhcp-preserved c = record {
  ready = dispatch_ready TakesMessage RefusesMessage c.args.cx.now c.args.word c.args.cx.now.ip_mtu
      c.dispatch.result c.loop-dhcp.dhcp c.dispatch.new.self c.loop-dhcp.out c.dispatch.new.out
      (before_last c.args.cx.now.now c.requires.time) c.loop-dhcp.invariant.ready c.dispatch.ensures.others
      c.dispatch.ensures.value;
  value = λ last later goes_on. c.loop-dhcp.invariant.value last later
      (GoesOn c.args.cx.now c.args.word c.loop-dhcp.dhcp c.dispatch.new.self last c.loop-dhcp.out
      c.dispatch.new.out later
      (rw (← c.poll_at.ensures) (le_of_test c.poll_at.result c.args.cx.now.now c.loop-dhcp-test.ensures))
      c.in-Ok.ensures.value goes_on);
}

pub loop-dhcp-smaller : goal.loop-dhcp-smaller
loop-dhcp-smaller c =
    dispatch_fewer TakesMessage RefusesMessage c.args.cx.now c.args.word c.args.cx.now.ip_mtu
    c.loop-dhcp.dhcp c.dispatch.new.self c.loop-dhcp.out c.dispatch.new.out
    (before_last c.args.cx.now.now c.requires.time) c.loop-dhcp.invariant.ready
    (rw (← c.poll_at.ensures) (le_of_test c.poll_at.result c.args.cx.now.now c.loop-dhcp-test.ensures))
    c.in-Ok.ensures.value

pub returns-clause-value : goal.returns-clause-value
returns-clause-value c =
    c.loop-dhcp.invariant.value c.loop-dhcp.dhcp c.loop-dhcp.out
    (IsQuiet c.args.cx.now c.args.word c.loop-dhcp.dhcp c.loop-dhcp.out
    (rw (← c.poll_at.ensures) (lt_of_test c.poll_at.result c.args.cx.now.now c.loop-dhcp-test.ensures)))

pub returns-in-Err-Unresolved-clause-value : goal.returns-in-Err-Unresolved-clause-value
returns-in-Err-Unresolved-clause-value c =
    let done = rw c.in-Err-Unresolved.field-0-is at c.in-Err-Unresolved.ensures.value in
    c.loop-dhcp.invariant.value c.dispatch.new.self c.dispatch.new.out
    (Waits c.args.cx.now c.args.word c.loop-dhcp.dhcp c.dispatch.new.self c.loop-dhcp.out c.dispatch.new.out
    (rw (← c.poll_at.ensures) (le_of_test c.poll_at.result c.args.cx.now.now c.loop-dhcp-test.ensures))
    done)

pub returns-in-Err-Unresolved-clause-ready : goal.returns-in-Err-Unresolved-clause-ready
returns-in-Err-Unresolved-clause-ready c =
    dispatch_ready TakesMessage RefusesMessage c.args.cx.now c.args.word c.args.cx.now.ip_mtu
    c.dispatch.result c.loop-dhcp.dhcp c.dispatch.new.self c.loop-dhcp.out c.dispatch.new.out
    (before_last c.args.cx.now.now c.requires.time) c.loop-dhcp.invariant.ready c.dispatch.ensures.others
    c.dispatch.ensures.value

pub returns-in-Err-NoMemory-clause-ready : goal.returns-in-Err-NoMemory-clause-ready
returns-in-Err-NoMemory-clause-ready c =
    dispatch_ready TakesMessage RefusesMessage c.args.cx.now c.args.word c.args.cx.now.ip_mtu
    c.dispatch.result c.loop-dhcp.dhcp c.dispatch.new.self c.loop-dhcp.out c.dispatch.new.out
    (before_last c.args.cx.now.now c.requires.time) c.loop-dhcp.invariant.ready c.dispatch.ensures.others
    c.dispatch.ensures.value
