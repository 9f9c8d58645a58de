use Rattle.std.proofs.Common.{◌≡◌, take}
use Rattle.std.specs.List.{flat_map, enumerate_from}
use Rattle.phy_layers.specs.Sink.{Took}
use Rattle.host_top.specs.ServeText.{served_text}
use Rattle.host_top.proofs.serve_text.serve_text.Given as goal

abbrev pub invariant-loop-row : goal.invariant-loop-row
invariant-loop-row g l = record {
  counted : l.number ≡ l.row-index;
  took : Took g.O.ByteSink.bytes g.O.ByteSink.faults g.O.ByteSink.grows l.answer
      (flat_map served_text (enumerate_from 0 (take l.row-index l.row-items))) l.fn.out l.out;
}
