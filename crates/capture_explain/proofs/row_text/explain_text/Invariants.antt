-- The rows so far were put.
use Rattle.std.proofs.Common.{◌≡◌, take}
use Rattle.std.specs.List.{flat_map, enumerate_from}
use Rattle.phy_layers.specs.Sink.{Took}
use Rattle.capture_explain.specs.ExplainText.{row_text}
use Rattle.capture_explain.proofs.row_text.explain_text.Given as goal

abbrev pub invariant-loop-row : goal.invariant-loop-row
invariant-loop-row g l = record {
  counted : l.number ≡ l.row-index;
  took : Took g.O.ByteSink.bytes g.O.ByteSink.faults g.O.ByteSink.grows l.answer
      (flat_map row_text (enumerate_from 0 (take l.row-index l.row-items))) l.fn.out l.out;
}
