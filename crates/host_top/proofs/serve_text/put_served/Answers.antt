use Rattle.capture_explain.proofs.TextLemmas.{puts_then}
use Rattle.host_top.proofs.serve_text.put_served.Goals as goal

pub returns : goal.returns
returns g c =
    puts_then (puts_then (puts_then (puts_then (puts_then c.put_number.ensures c.put.ensures) c.put_time.ensures) c.put-2.ensures)
    c.put_answered.ensures) c.put-3.ensures
