-- One piece behind the other.
use Rattle.capture_explain.proofs.TextLemmas.{puts_then}
use Rattle.script_text.proofs.line.put_event.Goals as goal

pub returns : goal.returns
returns g c =
    record {
      text = puts_then (puts_then (puts_then c.put_time.ensures c.put.ensures) c.put_arrival.ensures.text) c.put-2.ensures;
      bytes = c.put_arrival.ensures.bytes;
    }
