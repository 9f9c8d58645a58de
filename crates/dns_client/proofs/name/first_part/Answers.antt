use Rattle.std.proofs.Common.{◌+◌, arith, add-one}
use Rattle.std.proofs.lemmas.List.{take_rest}
use Rattle.dns_client.proofs.NameLemmas.{parts_of-at_point, parts_of-none}
use Rattle.dns_client.proofs.name.first_part.Goals as goal

pub returns-then-text-at-eq46-clause-value : goal.returns-then-text-at-eq46-clause-value
returns-then-text-at-eq46-clause-value c =
    rw (take_rest c.args.text.now (c.loop-at.at + 1), add-one)
    (parts_of-at_point c.loop-at.at c.args.text.now c.loop-at-test.true c.loop-at.invariant c.if-text-at-eq46.true)

pub returns-clause-value : goal.returns-clause-value
returns-clause-value c = parts_of-none c.args.text.now (λ k less. c.loop-at.invariant k (omega (arith, c.loop-at-test.false)))
