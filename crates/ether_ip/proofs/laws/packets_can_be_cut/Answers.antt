use Rattle.ether_ip.proofs.PacketLemmas.{packets_cuttable}
use Rattle.ether_ip.proofs.laws.packets_can_be_cut.Goals as goal

pub returns : goal.returns
returns c = packets_cuttable
