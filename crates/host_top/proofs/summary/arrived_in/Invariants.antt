use Rattle.std.proofs.Common.{◌≡◌, ◌+◌, ◌≤◌, drop}
use Rattle.host_top.specs.Summary.{count_of, is_arrived}
use Rattle.host_top.proofs.summary.arrived_in.Given as goal

abbrev pub invariant-loop-row : goal.invariant-loop-row
invariant-loop-row l = record {
  counted : l.count + count_of (λ row. is_arrived row.kind) (drop l.row-index l.rows) ≡ count_of (λ row. is_arrived row.kind) l.rows;
  within : l.count ≤ l.row-index;
}
