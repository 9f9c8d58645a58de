use Rattle.std.proofs.Common.{take}
use Rattle.std.specs.List.{flat_map}
use Rattle.capture_explain.specs.Text.{Puts}
use Rattle.host_top.specs.QueryText.{query_line}
use Rattle.host_top.proofs.query_text.put_lines.Given as goal

abbrev pub invariant-loop-line : goal.invariant-loop-line
invariant-loop-line g l =
    Puts g.O.ByteSink.bytes g.O.ByteSink.faults g.O.ByteSink.grows l.fn.answer l.answer (flat_map query_line (take l.line-index l.lines))
    l.fn.out l.out
