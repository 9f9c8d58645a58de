use Rattle.std.proofs.Common.{◌≡◌, ◌*◌, ◌≤◌, ◌^◌, take}
use Rattle.host_top.specs.Summary.{sent_for}
use Rattle.host_top.proofs.summary.sent_in.Given as goal

abbrev pub invariant-loop-row : goal.invariant-loop-row
invariant-loop-row l = record {
  counted : l.count ≡ sent_for l.purpose (take l.row-index l.rows);
  within : l.count ≤ l.row-index * 2 ^ 64;
}
