use Rattle.std.proofs.Common.{◌≡◌, ◌-◌, suc, length, refl, sym, ◌∙◌, ap, subst, is_some, set, arith}
use Rattle.dns_client.specs.Client.{client_of}
use Rattle.net_host.specs.declared.emitter.Emitter.{Emitter}
use Rattle.net_host.proofs.QueryEndLemmas.{HasFreed, freed_from, one_freed, none_freed, nothing_freed}
use Rattle.net_host.proofs.queries.end_queries.Goals as goal

pub loop-slot-init : goal.loop-slot-init
loop-slot-init c =
    let out = c.args.out.now in
    let sixteen : length out.numbers ≡ 16 = omega arith in
    record {
      freed = λ servers slots stand.
          subst (λ at. HasFreed servers slots at (client_of c.args.dns.now) out.numbers c.new-lines.result) sixteen
          (subst (λ lines. HasFreed servers slots (length out.numbers) (client_of c.args.dns.now) out.numbers lines)
          (sym c.new-lines.ensures) (nothing_freed servers slots (client_of c.args.dns.now) out.numbers stand));
      lent = λ lent. lent;
      out = refl;
      within = omega arith;
    }

pub loop-slot-preserved-in-Continue-1 : goal.loop-slot-preserved-in-Continue-1
loop-slot-preserved-in-Continue-1 c =
    let at = c.loop-slot.slot - 1 in
    let numbers = c.loop-slot.out.numbers in
    let more : c.loop-slot.slot ≡ suc at = omega (arith, c.loop-slot-test.true) in
    record {
      freed = λ servers slots stand.
          let before = subst (λ place. HasFreed servers slots place (client_of c.loop-slot.dns) numbers c.loop-slot.lines)
          more (c.loop-slot.invariant.freed servers slots stand) in
          let takes = c.in-Some.ensures.stand (freed_from (suc at) slots) before.stand.slots_are in
          subst (λ lines. HasFreed servers slots at (client_of c.take_ended.new.dns) (set numbers at 0) lines)
          (sym c.in_ok-insert.ensures)
          (one_freed servers slots at (client_of c.loop-slot.dns) (client_of c.take_ended.new.dns) numbers c.loop-slot.lines
          before c.take_ended.ensures.others c.in-Some.outcome takes);
      lent = λ lent. ap (λ client. is_some client.storage) c.take_ended.ensures.others ∙ c.loop-slot.invariant.lent lent;
      out = ap (λ (e : Emitter). record e { numbers = set numbers at 0 }) c.loop-slot.invariant.out;
      within = omega (arith, c.loop-slot.invariant.within);
    }

pub loop-slot-preserved : goal.loop-slot-preserved
loop-slot-preserved c =
    let at = c.loop-slot.slot - 1 in
    let numbers = c.loop-slot.out.numbers in
    let more : c.loop-slot.slot ≡ suc at = omega (arith, c.loop-slot-test.true) in
    record {
      freed = λ servers slots stand.
          let before = subst (λ place. HasFreed servers slots place (client_of c.loop-slot.dns) numbers c.loop-slot.lines)
          more (c.loop-slot.invariant.freed servers slots stand) in
          let takes = c.in_default.ensures.stand (freed_from (suc at) slots) before.stand.slots_are in
          none_freed servers slots at (client_of c.loop-slot.dns) (client_of c.take_ended.new.dns) numbers c.loop-slot.lines
          before c.take_ended.ensures.others takes;
      lent = λ lent. ap (λ client. is_some client.storage) c.take_ended.ensures.others ∙ c.loop-slot.invariant.lent lent;
      out = c.loop-slot.invariant.out;
      within = omega (arith, c.loop-slot.invariant.within);
    }

pub returns-clause-stand : goal.returns-clause-stand
returns-clause-stand c = λ servers slots stand.
    let none : c.loop-slot.slot ≡ 0 = omega (arith, c.loop-slot-test.false) in
    (subst (λ at. HasFreed servers slots at (client_of c.loop-slot.dns) c.loop-slot.out.numbers c.loop-slot.lines)
    none (c.loop-slot.invariant.freed servers slots stand)).stand

pub returns-clause-lines : goal.returns-clause-lines
returns-clause-lines c = λ servers slots stand.
    let none : c.loop-slot.slot ≡ 0 = omega (arith, c.loop-slot-test.false) in
    (subst (λ at. HasFreed servers slots at (client_of c.loop-slot.dns) c.loop-slot.out.numbers c.loop-slot.lines)
    none (c.loop-slot.invariant.freed servers slots stand)).lines_are
