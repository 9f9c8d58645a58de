use Rattle.ether_lax.proofs.CutResultLemmas.{packet_cut}
use Rattle.ether_lax.proofs.sliced_packet.LaxSlicedPacket.from_ethernet.Goals as goal

pub returns-clause-cut : goal.returns-clause-cut
returns-clause-cut c = λ n kept holds. packet_cut c.args.slice.now n kept c.sliced.result holds (rw c.first.ensures at c.sliced.ensures.value)
