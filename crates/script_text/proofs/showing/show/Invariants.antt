-- The events so far came, and their text was handed on.
use Rattle.std.proofs.Common.{◌≡◌, ◌≤◌, false, IfSome}
use Rattle.script_text.specs.Shown.{PutsEvents}
use Rattle.script_text.proofs.ShownLemmas.{Progress}
use Rattle.script_text.proofs.showing.show.Given as goal

abbrev pub invariant-loop-count : goal.invariant-loop-count
invariant-loop-count g l =
    let left = g.S.ScriptSource.left in
    let faults = g.S.ScriptSource.faults in
    record {
      progress : Progress l.max_events (left l.fn.source) (left l.source) l.reader
          (PutsEvents g.O.ByteSink l.fn.written l.written l.fn.out l.out);
      quiet : faults l.source ≡ faults l.fn.source;
      counted : l.reader.events ≡ l._count;
      within : l._count ≤ l.max_events;
      goes_on : l.reader.is_through ≡ false;
      limit : IfSome l.reader.max_events (λ max. max ≡ l.max_events);
    }
