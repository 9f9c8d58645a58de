use Rattle.std.proofs.Common.{rules}
use Rattle.host_top.proofs.TextLemmas.{puts_then, puts_same, dotted, four_items}
use Rattle.host_top.proofs.address_text.put_address.Goals as goal

pub returns : goal.returns
returns g c = puts_same
    (puts_then (puts_then (puts_then (puts_then (puts_then (puts_then c.put_number.ensures c.put.ensures) c.put_number-2.ensures) c.put-2.ensures)
    c.put_number-3.ensures) c.put-3.ensures) c.put_number-4.ensures)
    (rw (c.from.ensures, c.from-2.ensures, c.from-3.ensures, c.from-4.ensures) (dotted _ _ _ _ _ (four_items c.args.address.0 0 (search rules))))
