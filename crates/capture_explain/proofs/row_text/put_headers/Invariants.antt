-- The pieces so far were put.
use Rattle.std.proofs.Common.{take}
use Rattle.std.specs.List.{flat_map}
use Rattle.capture_explain.specs.Text.{Puts}
use Rattle.capture_explain.specs.ExplainText.{ah_line}
use Rattle.capture_explain.proofs.row_text.put_headers.Given as goal

abbrev pub invariant-loop-header : goal.invariant-loop-header
invariant-loop-header g l =
    Puts g.O.ByteSink.bytes g.O.ByteSink.faults g.O.ByteSink.grows l.fn.answer l.answer (flat_map ah_line (take l.header-index l.headers))
    l.fn.out l.out
