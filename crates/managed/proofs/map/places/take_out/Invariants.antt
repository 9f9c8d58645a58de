use Rattle.std.proofs.Common.{◌≡◌, ◌+◌, ◌++◌, take, drop, get_or, None}
use Rattle.managed.specs.Places.{pulled, closed_up}
use Rattle.managed.proofs.map.places.take_out.Given as goal

-- the place reached is empty, and what is left to do gives the whole
abbrev pub invariant-loop-at : goal.invariant-loop-at
invariant-loop-at g l = record {
  item : l.item ≡ get_or l.fn.places 0 None;
  gap : get_or l.places l.at None ≡ None;
  whole : take l.at l.places ++ pulled (drop (l.at + 1) l.places) ≡ closed_up l.fn.places;
}
