use Rattle.std.proofs.Common.{sym, ◌∙◌}
use Rattle.managed.specs.SortedMap.{pairs}
use Rattle.managed.specs.SlotMap.{elements_of, places_of}
use Rattle.lease_server.specs.Values.{values_of, number_of}
use Rattle.lease_server.proofs.HolderLemmas.{sorted_keys}
use Rattle.lease_server.proofs.MarkLemmas.{left_next, left_found, left_from}
use Rattle.lease_server.proofs.GiveLemmas.{owns}
use Rattle.lease_server.proofs.server.Server.owner.Goals as goal

pub loop-pair-init : goal.loop-pair-init
loop-pair-init c = left_from (pairs c.self.inside.clients) (elements_of c.self.inside.leases) (number_of c.args.address) c.into_iter-pair-iterator.result
    (c.into_iter-pair-iterator.ensures.into_iter_gives ∙ c.iter-pair-items.ensures)
    (sorted_keys c.self.inside.clients c.self.inside.values.count c.self.invariant.sorted c.self.invariant.places)

pub returns-then-number_of : goal.returns-then-number_of
returns-then-number_of c = rw (← c.self.view_is)
    (owns (values_of c.self.inside.values) (pairs c.self.inside.clients) (elements_of c.self.inside.leases) (places_of c.self.inside.leases) (number_of c.args.address) c.in-Some.pair.0.now
    c.self.invariant.holders
    (left_found (pairs c.self.inside.clients) (elements_of c.self.inside.leases) (number_of c.args.address) c.loop-pair.pair-iterator
    (c.in-Some.pair.0.now, c.in-Some.pair.1.now) c.next.new.self c.in-Some-get.lease.now c.in-Some.ensures.steps c.in-Some-get.ensures.value c.loop-pair.invariant
    (sym c.number_of.ensures ∙ c.if-number_of.true ∙ c.number_of-in-Some-get.ensures)))

pub loop-pair-preserved-else-number_of : goal.loop-pair-preserved-else-number_of
loop-pair-preserved-else-number_of c = left_next (pairs c.self.inside.clients) (elements_of c.self.inside.leases) (number_of c.args.address) c.loop-pair.pair-iterator
    (c.in-Some.pair.0.now, c.in-Some.pair.1.now) c.next.new.self c.in-Some-get.lease.now c.in-Some.ensures.steps c.in-Some-get.ensures.value c.loop-pair.invariant
    (λ same. c.if-number_of.false (c.number_of.ensures ∙ same ∙ sym c.number_of-in-Some-get.ensures))
