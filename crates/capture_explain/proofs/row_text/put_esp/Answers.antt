-- One piece behind the other.
use Rattle.std.proofs.Common.{ap}
use Rattle.std.specs.Fmt.{decimal}
use Rattle.capture_explain.proofs.TextLemmas.{puts_then, puts_same}
use Rattle.capture_explain.proofs.row_text.put_esp.Goals as goal

pub returns-in-Some : goal.returns-in-Some
returns-in-Some g c =
    rw c.in-Some.is
    (puts_then (puts_then (puts_then (puts_then c.put.ensures c.put_hexadecimal.ensures) c.put-in-Some.ensures)
    (puts_same c.put_number.ensures (ap decimal c.from.ensures))) c.put-in-Some-2.ensures)
