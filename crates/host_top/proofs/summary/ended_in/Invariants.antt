use Rattle.std.proofs.Common.{◌≡◌, ◌*◌, ◌≤◌, ◌^◌, take}
use Rattle.host_top.specs.Summary.{ended_as}
use Rattle.host_top.proofs.summary.ended_in.Given as goal

abbrev pub invariant-loop-row : goal.invariant-loop-row
invariant-loop-row l = record {
  counted : l.count ≡ ended_as l.end (take l.row-index l.rows);
  within : l.count ≤ l.row-index * 2 ^ 64;
}
