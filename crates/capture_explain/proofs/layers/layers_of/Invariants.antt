-- The parts so far are listed.
use Rattle.std.proofs.Common.{◌-◌, ◌≤◌, length}
use Rattle.capture_explain.proofs.LayerLemmas.{IsListing}
use Rattle.capture_explain.proofs.layers.layers_of.Given as goal

abbrev pub invariant-loop-turn : goal.invariant-loop-turn
invariant-loop-turn l = record {
  listing : IsListing l.frame l.parts l.ah l.seen l.turn l.start l.end;
  order : l.start ≤ l.end;
  within : l.end ≤ length l.frame;
  few : length l.frame ≤ 262144;
}

abbrev pub decreases-loop-turn : goal.decreases-loop-turn
decreases-loop-turn l = length l.frame - l.start
