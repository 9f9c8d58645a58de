use Rattle.std.proofs.Common.{◌≡◌, ◌∙◌, arith, length}
use Rattle.managed.specs.SortedMap.{pairs}
use Rattle.managed.specs.SlotMap.{elements_of, places_of}
use Rattle.lease_server.specs.Values.{values_of}
use Rattle.lease_server.proofs.HolderLemmas.{sorted_keys}
use Rattle.lease_server.proofs.MarkLemmas.{none_from, marks_next, lease_within}
use Rattle.lease_server.proofs.TestLemmas.{count_parts}
use Rattle.lease_server.proofs.server.Server.taken.Goals as goal

pub loop-pair-init : goal.loop-pair-init
loop-pair-init c = none_from (values_of c.self.inside.values) (pairs c.self.inside.clients) (elements_of c.self.inside.leases) c.args.at c.into_iter-pair-iterator.result
    (c.into_iter-pair-iterator.ensures.into_iter_gives ∙ c.iter-pair-items.ensures)
    (sorted_keys c.self.inside.clients c.self.inside.values.count c.self.invariant.sorted c.self.invariant.places)

pub mark-requires-clause-from : goal.mark-requires-clause-from
mark-requires-clause-from c =
    let range = lease_within (values_of c.self.inside.values) (pairs c.self.inside.clients) (elements_of c.self.inside.leases) (places_of c.self.inside.leases)
    c.args.at c.loop-pair.taken c.loop-pair.pair-iterator (c.in-Some.pair.0.now, c.in-Some.pair.1.now) c.next.new.self c.in-Some-get.lease.now
    c.self.invariant.checked c.self.invariant.holders c.in-Some.ensures.steps c.in-Some-get.ensures.value c.loop-pair.invariant.own in
    omega (arith, range.from, c.number_of-first.ensures)

pub mark-requires-clause-within : goal.mark-requires-clause-within
mark-requires-clause-within c =
    let range = lease_within (values_of c.self.inside.values) (pairs c.self.inside.clients) (elements_of c.self.inside.leases) (places_of c.self.inside.leases)
    c.args.at c.loop-pair.taken c.loop-pair.pair-iterator (c.in-Some.pair.0.now, c.in-Some.pair.1.now) c.next.new.self c.in-Some-get.lease.now
    c.self.invariant.checked c.self.invariant.holders c.in-Some.ensures.steps c.in-Some-get.ensures.value c.loop-pair.invariant.own in
    let count = count_parts (values_of c.self.inside.values) c.self.invariant.checked in
    let long : length c.loop-pair.taken ≡ 1000 = omega arith in
    omega (arith, range.below, count.few, c.number_of-first.ensures, long)

pub loop-pair-preserved-in-Some-get : goal.loop-pair-preserved-in-Some-get
loop-pair-preserved-in-Some-get c =
    let long : length c.loop-pair.taken ≡ 1000 = omega arith in
    marks_next (values_of c.self.inside.values) (pairs c.self.inside.clients) (elements_of c.self.inside.leases) (places_of c.self.inside.leases)
    c.args.at c.loop-pair.taken c.loop-pair.pair-iterator (c.in-Some.pair.0.now, c.in-Some.pair.1.now) c.next.new.self c.in-Some-get.lease.now
    c.self.invariant.checked c.self.invariant.holders c.in-Some.ensures.steps c.in-Some-get.ensures.value c.number_of-first.result c.mark.new.taken
    c.number_of-first.ensures long c.loop-pair.invariant c.mark.ensures
