use Rattle.std.proofs.Common.{sym, ◌∙◌, ◌+◌, arith, ◌<◌, ◌≤◌, ap, Some}
use Rattle.lease_server.proofs.RangeLemmas.{free_here, free_later, none_left, whole_range}
use Rattle.lease_server.proofs.marks.first_unmarked.Goals as goal

pub returns-then-not-taken-place : goal.returns-then-not-taken-place
returns-then-not-taken-place c = λ test agree.
    let below : c.loop-place.place < c.args.count = omega arith in
    ap Some c.address_of.ensures
    ∙ sym (c.loop-place.invariant test agree
    ∙ free_here test c.args.first c.loop-place.place c.args.count below
    (sym (agree c.loop-place.place below) ∙ c.if-not-taken-place.true))

pub loop-place-preserved : goal.loop-place-preserved
loop-place-preserved c = λ test agree.
    let below : c.loop-place.place < c.args.count = omega arith in
    c.loop-place.invariant test agree
    ∙ free_later test c.args.first c.loop-place.place c.args.count below
    (sym (agree c.loop-place.place below) ∙ c.if-not-taken-place.false)

pub loop-place-init : goal.loop-place-init
loop-place-init c = λ test agree. whole_range test c.args.first c.args.count

pub returns : goal.returns
returns c = λ test agree.
    let past : c.args.count ≤ c.loop-place.place = omega arith in
    sym (c.loop-place.invariant test agree ∙ none_left test (c.args.first + c.loop-place.place) c.loop-place.place c.args.count past)
