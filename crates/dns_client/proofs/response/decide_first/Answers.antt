use Rattle.std.proofs.Common.{◌<◌, length, get_or, None, arith, sym, ◌∙◌}
use Rattle.std.proofs.lemmas.List.{get_or_default}
use Rattle.dns_client.proofs.ResponseLemmas.{decided_here}
use Rattle.dns_client.proofs.response.decide_first.Goals as goal

pub returns-then-reaches : goal.returns-then-reaches
returns-then-reaches c =
    let inside : c.loop-at.at < length c.loop-at.slots = omega arith in
    decided_here c.args.arrived.now c.args.packet.now c.loop-at.slots c.args.slots.now c.loop-at.at
    (get_or c.loop-at.slots c.loop-at.at c.index-slots-at.result) (get_or c.loop-at.slots c.loop-at.at c.index-slots-at-then-reaches.result)
    (get_or c.loop-at.slots c.loop-at.at c.index-slots-at-then-reaches-2.result) c.settle.new.slot _ inside
    (get_or_default c.loop-at.slots c.loop-at.at c.index-slots-at.result None inside)
    (get_or_default c.loop-at.slots c.loop-at.at c.index-slots-at-then-reaches.result None inside)
    (get_or_default c.loop-at.slots c.loop-at.at c.index-slots-at-then-reaches-2.result None inside)
    (sym c.reaches.ensures ∙ c.if-reaches.true) c.answer_in-answer.ensures c.settle.ensures
    c.loop-at.invariant.same c.loop-at.invariant.passed
