use Rattle.std.proofs.Common.{take}
use Rattle.std.specs.List.{flat_map}
use Rattle.capture_explain.specs.Text.{Puts}
use Rattle.host_top.specs.ReportText.{sent_line}
use Rattle.host_top.proofs.report_text.put_sent.Given as goal

abbrev pub invariant-loop-frame : goal.invariant-loop-frame
invariant-loop-frame g l =
    Puts g.O.ByteSink.bytes g.O.ByteSink.faults g.O.ByteSink.grows l.fn.answer l.answer (flat_map sent_line (take l.frame-index l.sent))
    l.fn.out l.out
