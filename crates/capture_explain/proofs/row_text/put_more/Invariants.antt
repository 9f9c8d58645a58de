-- The pieces so far were put.
use Rattle.std.proofs.Common.{take}
use Rattle.std.specs.List.{flat_map}
use Rattle.capture_explain.specs.Text.{Puts}
use Rattle.capture_explain.specs.ExplainText.{more_text}
use Rattle.capture_explain.proofs.row_text.put_more.Given as goal

abbrev pub invariant-loop-part : goal.invariant-loop-part
invariant-loop-part g l =
    Puts g.O.ByteSink.bytes g.O.ByteSink.faults g.O.ByteSink.grows l.fn.answer l.answer (flat_map more_text (take l.part-index l.parts))
    l.fn.out l.out
