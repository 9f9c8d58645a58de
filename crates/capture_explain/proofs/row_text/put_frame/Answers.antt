-- One piece behind the other.
use Rattle.std.proofs.Common.{ap}
use Rattle.std.specs.Fmt.{decimal}
use Rattle.capture_explain.specs.Text.{six_digits}
use Rattle.capture_explain.specs.ExplainText.{parts_text}
use Rattle.capture_explain.proofs.TextLemmas.{puts_then, puts_same}
use Rattle.capture_explain.proofs.row_text.put_frame.Goals as goal

pub returns : goal.returns
returns g c =
    puts_then (puts_then (puts_then (puts_then (puts_then (puts_then (puts_then (puts_then (puts_then (puts_then (puts_then (puts_then (puts_then (puts_then (puts_then c.put_number.ensures c.put.ensures) (puts_same c.put_number-2.ensures (ap decimal c.from.ensures))) c.put-2.ensures) (puts_same c.put_six_digits.ensures (ap six_digits c.from-2.ensures))) c.put-3.ensures) (puts_same c.put_number-3.ensures (ap decimal c.from-3.ensures))) c.put-4.ensures) (puts_same c.put_number-4.ensures (ap decimal c.from-4.ensures))) c.put-5.ensures) (puts_same c.put_parts.ensures (ap parts_text c.as_slice.ensures.value))) c.put-6.ensures) (puts_same c.put-7.ensures c.stop_word.ensures)) c.put-8.ensures) (puts_same c.put-9.ensures c.flag_word.ensures)) c.put-10.ensures
