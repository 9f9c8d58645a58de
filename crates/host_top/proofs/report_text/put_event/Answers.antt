use Rattle.host_top.proofs.TextLemmas.{puts_then}
use Rattle.host_top.proofs.report_text.put_event.Goals as goal

pub returns : goal.returns
returns g c =
    puts_then (puts_then (puts_then (puts_then (puts_then (puts_then (puts_then (puts_then c.put_number.ensures c.put.ensures) c.put_time.ensures)
    c.put-2.ensures) c.put_kind.ensures) c.put_note.ensures) c.put-3.ensures) c.put_lease.ensures) c.put-4.ensures
