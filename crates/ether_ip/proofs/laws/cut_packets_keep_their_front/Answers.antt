use Rattle.ether_ip.proofs.CutPacketLemmas.{cut_packet}
use Rattle.ether_ip.proofs.laws.cut_packets_keep_their_front.Goals as goal

pub returns : goal.returns
returns c = λ turn start end places kept stop last within right right_cut.
    cut_packet c.args.frame.now c.args.n turn start end places kept stop last within right right_cut
