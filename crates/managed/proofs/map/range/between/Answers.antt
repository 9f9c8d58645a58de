use Rattle.std.proofs.Common.{◌-◌, sym, ◌∙◌, arith}
use Rattle.std.specs.Range.Bound.{bound_map}
use Rattle.std.specs.BTreeMap.Range.{is_from_start, is_past_end}
use Rattle.managed.specs.SortedMap.{filled}
use Rattle.managed.proofs.RangeLemmas.{none_between, between_cuts, filled-part}
use Rattle.managed.proofs.map.range.between.Goals as goal

pub returns-then-end-start-clause-rest : goal.returns-then-end-start-clause-rest
returns-then-end-start-clause-rest g c =
    sym (none_between (is_from_start g.K.Ord.cmp (bound_map (λ x. x.now) c.args.from)) (is_past_end g.K.Ord.cmp (bound_map (λ x. x.now) c.args.to)) (filled c.args.places.now) _ _ (omega arith) c.start_of-start.ensures.cut c.end_of-end.ensures.cut)

pub returns : goal.returns
returns g c =
    let lo = c.start_of-start in
    let hi = c.end_of-end in
    let part = filled-part c.args.places.now lo.result (hi.result - lo.result) (omega (arith, hi.ensures.within)) in
    let cuts = between_cuts (is_from_start g.K.Ord.cmp (bound_map (λ x. x.now) c.args.from)) (is_past_end g.K.Ord.cmp (bound_map (λ x. x.now) c.args.to)) (filled c.args.places.now) lo.result hi.result (hi.result - lo.result) (omega arith) lo.ensures.cut hi.ensures.cut in
    record { rest = part.0 ∙ sym cuts; within = part.1 }
