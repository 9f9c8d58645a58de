use Rattle.std.proofs.Common.{arith}
use Rattle.dns_client.proofs.AnswerLemmas.{label_counted, label_has_no_room}
use Rattle.dns_client.proofs.answer.is_short.Goals as goal

pub returns-then-len-text-gt254 : goal.returns-then-len-text-gt254
returns-then-len-text-gt254 c =
    let first = rw c.in-Ok.is at c.in-Some.ensures.steps in (
      (λ no. let wrong : ⊥ = cc in absurd wrong),
      (λ short. absurd (label_has_no_room _ _ _ _ first c.if-len-text-gt254.true (c.loop-label.invariant.counted.1 short))),
    )

pub loop-label-preserved : goal.loop-label-preserved
loop-label-preserved c =
    let first = rw c.in-Ok.is at c.in-Some.ensures.steps in
    let moved = label_counted _ _ _ c.loop-label.len first in
    record {
      counted = ((λ few. c.loop-label.invariant.counted.0 (moved.1 few)), (λ short. moved.0 (c.loop-label.invariant.counted.1 short)));
      within = (omega arith, omega arith);
    }
