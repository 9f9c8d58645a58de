use Rattle.std.proofs.Common.{refl, arith, rules}
use Rattle.managed.proofs.SortedLemmas.{sorted_from_steps, steps_at, steps_more}
use Rattle.managed.proofs.map.borrowed.is_sorted.Goals as goal

-- two places stand the wrong way round
pub returns-then-not-precedes : goal.returns-then-not-precedes
returns-then-not-precedes g c = (
  λ yes. absurd (cc),
  λ sorted.
      let step = steps_at g.met.K.Ord.total c.args.places.now _ c.loop-at.at _ _ (omega arith) (omega arith) c.index-places-at.is c.index-places-at-in-loop-at.is sorted in
      let yes = c.precedes.ensures.1 step in
      cc,
)

pub loop-at-preserved : goal.loop-at-preserved
loop-at-preserved g c =
    steps_more g.met.K.Ord.total c.args.places.now _ c.loop-at.at _ _ (omega arith) (omega arith) c.index-places-at.is c.index-places-at-in-loop-at.is (c.precedes.ensures.0 (search rules)) c.loop-at.invariant

pub returns : goal.returns
returns g c =
    (λ yes. sorted_from_steps g.met.K.Ord.total c.args.places.now (λ k lt. c.loop-at.invariant k (omega arith)), λ sorted. refl)
