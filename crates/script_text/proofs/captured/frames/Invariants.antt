-- The entries so far came, and their text was handed on.
use Rattle.std.proofs.Common.{◌≡◌, ◌+◌, ◌*◌, ◌≤◌, length}
use Rattle.script_text.specs.ShownFrames.{PutsFrames}
use Rattle.script_text.proofs.FramesLemmas.{Progress}
use Rattle.script_text.proofs.captured.frames.Given as goal

abbrev pub invariant-loop-count : goal.invariant-loop-count
invariant-loop-count g l =
    let left = g.S.ScriptSource.left in
    let faults = g.S.ScriptSource.faults in
    record {
      progress : Progress (left l.fn.source) (left l.source) l.offset l.count l.last_micros
          (PutsFrames g.O.ByteSink l.fn.written l.written l.fn.out l.out);
      quiet : faults l.source ≡ faults l.fn.source;
      near : l.offset ≤ 24 + l.count * 262160;
      within : l.count ≤ l.max_frames;
      most : l.max_frames ≤ 10000;
      room : length l.room.items ≡ 262144;
    }
