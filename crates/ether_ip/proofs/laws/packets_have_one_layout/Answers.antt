use Rattle.ether_ip.proofs.CutPacketLemmas.{one_packet}
use Rattle.ether_ip.proofs.laws.packets_have_one_layout.Goals as goal

pub returns : goal.returns
returns c = λ turn start end. one_packet c.args.frame.now turn start end
