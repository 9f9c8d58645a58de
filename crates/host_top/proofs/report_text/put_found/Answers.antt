use Rattle.std.proofs.Common.{ap}
use Rattle.std.specs.Fmt.{decimal}
use Rattle.host_top.proofs.TextLemmas.{puts_then, puts_same}
use Rattle.host_top.proofs.report_text.put_found.Goals as goal

pub returns : goal.returns
returns g c =
    puts_then (puts_then (puts_then (puts_then (puts_then (puts_then (puts_then (puts_then (puts_then (puts_then (puts_then (puts_then (puts_then (puts_then
    (puts_then c.put.ensures (puts_same c.put_number.ensures (ap decimal c.from.ensures)))
    c.put-2.ensures) (puts_same c.put-3.ensures c.net_word.ensures))
    c.put-4.ensures) (puts_same c.put-5.ensures c.transport_word.ensures))
    c.put-6.ensures) (puts_same c.put_number-2.ensures (ap decimal c.from-2.ensures)))
    c.put-7.ensures) (puts_same c.put_number-3.ensures (ap decimal c.from-3.ensures)))
    c.put-8.ensures) (puts_same c.put-9.ensures c.flag_word.ensures))
    c.put-10.ensures) (puts_same c.put-11.ensures c.flag_word-2.ensures))
    c.put-12.ensures) (puts_same c.put-13.ensures c.stop_word.ensures)
