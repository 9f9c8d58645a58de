-- The entries so far were read and are printed.
use Rattle.std.proofs.Common.{◌≡◌, ◌+◌, ◌*◌, ◌≤◌, length}
use Rattle.capture_explain.specs.PrintText.{PutsEntries}
use Rattle.capture_explain.proofs.ProgressLemmas.{Progress}
use Rattle.capture_explain.proofs.printing.print_capture.Given as goal

abbrev pub invariant-loop-count : goal.invariant-loop-count
invariant-loop-count g l =
    let left = g.S.ScriptSource.left in
    let faults = g.S.ScriptSource.faults in
    record {
      progress : Progress (left l.fn.source) (left l.source) l.offset l.count
          (PutsEntries g.O.ByteSink l.fn.written l.written l.fn.out l.out);
      quiet : faults l.source ≡ faults l.fn.source;
      near : l.offset ≤ 24 + l.count * 262160;
      within : l.count ≤ l.max_frames;
      most : l.max_frames ≤ 100000;
      room : length l.frame.items ≡ 262144;
    }
