use Rattle.std.proofs.Common.{◌<◌, length, get_or, None, arith, sym}
use Rattle.std.proofs.lemmas.List.{get_or_default}
use Rattle.dns_client.specs.Looks.{look}
use Rattle.dns_client.proofs.WalkLemmas.{passes, keeps, fails, asks_taken, asks_refused}
use Rattle.dns_client.proofs.dispatch.dispatch.Goals as goal
use Rattle.dns_client.proofs.dispatch.dispatch.Goals.{in-Pass, in-Keep, in-Fail}

pub returns-in-Ok : goal.returns-in-Ok
returns-in-Ok g c =
    let inside : c.loop-at.at < length c.loop-at.slots = omega arith in
    let planned = rw c.loop-at.invariant.untouched at c.in-Ask.ensures.value in
    let given = rw c.loop-at.invariant.untouched at c.in-Ok.ensures in
    asks_taken (look (g.E.DnsEmit.source c.args.out.now) c.args.servers.now c.args.now.now) c.loop-at.slots _ c.loop-at.at
    (get_or c.loop-at.slots c.loop-at.at c.index-slots-at.result) inside (get_or_default c.loop-at.slots c.loop-at.at c.index-slots-at.result None inside) c.loop-at.invariant.walked
    g.E.DnsEmit.took g.E.DnsEmit.refused c.args.hop_limit (get_or c.loop-at.slots c.loop-at.at c.index-slots-at-in-Ask.result) (get_or c.loop-at.slots c.loop-at.at c.index-slots-at-in-Ok.result)
    c.set_turn-in-Ok.new.slot c.in-Ask.from c.in-Ask.to c.in-Ask.before c.in-Ask.after c.args.out.now c.ask.new.out
    (get_or_default c.loop-at.slots c.loop-at.at c.index-slots-at-in-Ask.result None inside) (get_or_default c.loop-at.slots c.loop-at.at c.index-slots-at-in-Ok.result None inside) c.in-Ask.ensures.asks.1 (sym planned) given c.set_turn-in-Ok.ensures

pub returns-in-Err : goal.returns-in-Err
returns-in-Err g c =
    let inside : c.loop-at.at < length c.loop-at.slots = omega arith in
    let planned = rw c.loop-at.invariant.untouched at c.in-Ask.ensures.value in
    let given = rw c.loop-at.invariant.untouched at c.in-Err.ensures in
    asks_refused (look (g.E.DnsEmit.source c.args.out.now) c.args.servers.now c.args.now.now) c.loop-at.slots _ c.loop-at.at
    (get_or c.loop-at.slots c.loop-at.at c.index-slots-at.result) inside (get_or_default c.loop-at.slots c.loop-at.at c.index-slots-at.result None inside) c.loop-at.invariant.walked
    g.E.DnsEmit.took g.E.DnsEmit.refused c.args.hop_limit (get_or c.loop-at.slots c.loop-at.at c.index-slots-at-in-Ask.result) (get_or c.loop-at.slots c.loop-at.at c.index-slots-at-in-Err.result)
    c.set_turn-in-Err.new.slot c.in-Ask.from c.in-Ask.to c.in-Ask.before c.in-Ask.after c.args.out.now c.ask.new.out
    (get_or_default c.loop-at.slots c.loop-at.at c.index-slots-at-in-Ask.result None inside) (get_or_default c.loop-at.slots c.loop-at.at c.index-slots-at-in-Err.result None inside) c.in-Ask.ensures.asks.1 (sym planned) c.in-Err.error given c.set_turn-in-Err.ensures

pub loop-at-preserved : goal.loop-at-preserved
loop-at-preserved g c =
    let inside : c.loop-at.at < length c.loop-at.slots = omega arith in
    elim c.match-look_at.branch [
      | in-Pass w ↦ record {
        walked = rw w.slots-is
            (passes (look (g.E.DnsEmit.source c.args.out.now) c.args.servers.now c.args.now.now) c.loop-at.slots _ c.loop-at.at
            (get_or c.loop-at.slots c.loop-at.at c.index-slots-at.result) inside (get_or_default c.loop-at.slots c.loop-at.at c.index-slots-at.result None inside) c.loop-at.invariant.walked
            (sym (rw c.loop-at.invariant.untouched at w.in-Pass.ensures.value)));
        untouched = c.loop-at.invariant.untouched;
      }
      | in-Keep w ↦ record {
        walked = rw w.slots-is
            (keeps (look (g.E.DnsEmit.source c.args.out.now) c.args.servers.now c.args.now.now) c.loop-at.slots _ c.loop-at.at
            (get_or c.loop-at.slots c.loop-at.at c.index-slots-at.result) inside (get_or_default c.loop-at.slots c.loop-at.at c.index-slots-at.result None inside) c.loop-at.invariant.walked
            (get_or c.loop-at.slots c.loop-at.at w.index-slots-at-in-Keep.result) w.set_turn.new.slot w.in-Keep.turn (get_or_default c.loop-at.slots c.loop-at.at w.index-slots-at-in-Keep.result None inside) w.set_turn.ensures
            (sym (rw c.loop-at.invariant.untouched at w.in-Keep.ensures.value)));
        untouched = c.loop-at.invariant.untouched;
      }
      | in-Fail w ↦ record {
        walked = rw w.slots-is
            (fails (look (g.E.DnsEmit.source c.args.out.now) c.args.servers.now c.args.now.now) c.loop-at.slots _ c.loop-at.at
            (get_or c.loop-at.slots c.loop-at.at c.index-slots-at.result) inside (get_or_default c.loop-at.slots c.loop-at.at c.index-slots-at.result None inside) c.loop-at.invariant.walked w.in-Fail.ensures.asks
            (sym (rw c.loop-at.invariant.untouched at w.in-Fail.ensures.value)));
        untouched = c.loop-at.invariant.untouched;
      }
    ]
