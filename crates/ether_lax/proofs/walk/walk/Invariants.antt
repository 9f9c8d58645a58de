use Rattle.std.proofs.Common.{◌-◌, ◌≤◌, length}
use Rattle.ether_lax.specs.Found.{found_in}
use Rattle.ether_lax.specs.Walks.{IsInside, LiesIn}
use Rattle.ether_lax.proofs.WalkLemmas.{IsWalking}
use Rattle.ether_lax.proofs.walk.walk.Given as goal

abbrev pub invariant-loop-turn : goal.invariant-loop-turn
invariant-loop-turn l = record {
  walking : IsWalking l.in_places l.frame l.fn.first (found_in l.found) l.turn l.start l.end;
  order : l.start ≤ l.end;
  within : l.end ≤ length l.frame;
  inside : IsInside (length l.frame) l.start l.found.ip;
  last : LiesIn (length l.frame) l.found.last;
}

abbrev pub decreases-loop-turn : goal.decreases-loop-turn
decreases-loop-turn l = length l.frame - l.start
