-- One piece behind the other.
use Rattle.std.proofs.Common.{ap}
use Rattle.std.specs.Fmt.{decimal}
use Rattle.capture_explain.specs.Text.{six_digits}
use Rattle.capture_explain.proofs.TextLemmas.{puts_then, puts_same}
use Rattle.capture_explain.proofs.printing.put_line.Goals as goal

pub returns : goal.returns
returns g c =
    puts_then (puts_then (puts_then (puts_then (puts_then (puts_then (puts_then (puts_then (puts_then (puts_same c.put_number.ensures (ap decimal c.from.ensures)) c.put.ensures) (puts_same c.put_number-2.ensures (ap decimal c.from-2.ensures))) c.put-2.ensures) (puts_same c.put_six_digits.ensures (ap six_digits c.from-3.ensures))) c.put-3.ensures) (puts_same c.put_number-3.ensures (ap decimal c.from-4.ensures))) c.put-4.ensures) (puts_same c.put_number-4.ensures (ap decimal c.from-5.ensures))) c.put-5.ensures
