use Rattle.std.proofs.Common.{sym, ◌∙◌, refl}
use Rattle.lease_server.specs.Values.{number_of}
use Rattle.lease_server.proofs.GiveLemmas.{nobody_left, others_kept, mine_kept}
use Rattle.lease_server.proofs.TestLemmas.{same_client}
use Rattle.lease_server.proofs.server.Server.clear.Goals as goal

pub returns-then-not-is_same-clause-alone : goal.returns-then-not-is_same-clause-alone
returns-then-not-is_same-clause-alone c = λ other has. absurd (nobody_left c.args.self.now.holders c.evict.new.self.holders c.in-Some.other (number_of c.args.address)
    c.in-Some.ensures c.evict.ensures.holds other has)

pub returns-then-not-is_same-clause-mine : goal.returns-then-not-is_same-clause-mine
returns-then-not-is_same-clause-mine c = mine_kept c.args.self.now.holders c.evict.new.self.holders c.in-Some.other (number_of c.args.address)
    c.in-Some.ensures c.evict.ensures.holds c.args.client (sym c.is_same.ensures ∙ c.if-not-is_same.true)

pub returns-then-not-is_same-clause-holds : goal.returns-then-not-is_same-clause-holds
returns-then-not-is_same-clause-holds c = others_kept c.args.self.now.holders c.evict.new.self.holders c.in-Some.other (number_of c.args.address)
    c.in-Some.ensures c.evict.ensures.holds c.args.self.now.values c.args.now c.args.client c.args.address refl c.requires (sym c.is_same.ensures ∙ c.if-not-is_same.true)

pub returns-else-not-is_same-clause-alone : goal.returns-else-not-is_same-clause-alone
returns-else-not-is_same-clause-alone c = λ other has.
    c.in-Some.ensures.only other has ∙ same_client c.in-Some.other c.args.client (sym c.is_same.ensures ∙ c.if-not-is_same.false)
