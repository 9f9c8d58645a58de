use Rattle.dns_client.specs.AnswerRead.{answer_value}
use Rattle.dns_client.proofs.FollowLemmas.{goes_on_behind, stops_behind, finishes_behind}
use Rattle.dns_client.proofs.answer.follow.Goals as goal

pub returns-in_default : goal.returns-in_default
returns-in_default c = λ name named.
    stops_behind _ _ name _ c.args.count c.loop-i.i _ _ _ c.loop-i-test.true c.in_default.ensures (c.loop-i.invariant name named)

pub loop-i-preserved : goal.loop-i-preserved
loop-i-preserved c = λ name named.
    goes_on_behind _ _ name _ c.args.count c.loop-i.i _ _ _ _ _ _ (answer_value c.in-Some.answer) c.loop-i-test.true
    c.in-Some.ensures.0 c.in-Some.ensures.1 c.follow_one.ensures (c.loop-i.invariant name named)

pub returns : goal.returns
returns c = λ name named.
    finishes_behind _ _ name _ c.args.count c.loop-i.i _ _ _ c.loop-i-test.false (c.loop-i.invariant name named)
