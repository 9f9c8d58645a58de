use Rattle.std.proofs.Common.{ℕ, ◌<◌, suc, get_or, None}
use Rattle.managed.specs.SortedMap.{Precedes}
use Rattle.managed.proofs.map.borrowed.is_sorted.Given as goal

-- the places so far may stand as they do
abbrev pub invariant-loop-at : goal.invariant-loop-at
invariant-loop-at g l = (k : ℕ) → suc k < l.at → Precedes g.K.Ord.cmp (get_or l.places k None) (get_or l.places (suc k) None)
