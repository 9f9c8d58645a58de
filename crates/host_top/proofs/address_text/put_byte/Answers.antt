use Rattle.net_wire.specs.Pretty.{hex_pair}
use Rattle.host_top.proofs.TextLemmas.{puts_then, puts_same}
use Rattle.host_top.proofs.address_text.put_byte.Goals as goal

pub returns : goal.returns
unfolding hex_pair
returns g c = puts_then (puts_same c.put.ensures c.digit_of.ensures) (puts_same c.put-2.ensures c.digit_of-2.ensures)
