-- The line of the entry, and then the printing of its frame.
use Rattle.std.proofs.Common.{ap, sym, ◌∙◌}
use Rattle.capture_explain.specs.PrintText.{entry_line}
use Rattle.capture_explain.proofs.TextLemmas.{puts_then, puts_same}
use Rattle.capture_explain.proofs.printing.put_entry.Goals as goal

pub returns : goal.returns
returns g c =
    let lines = c.in_ok-lines.ensures in
    let head = c.args.head in
    record {
      ok = puts_then
          (puts_same c.put_line.ensures (ap (λ n. entry_line c.args.number head.secs head.micros n head.length) (sym c.requires.captured)))
          (puts_then (puts_same c.put.ensures (c.as_bytes.ensures.value ∙ lines)) c.put-2.ensures);
      err = tt;
    }
