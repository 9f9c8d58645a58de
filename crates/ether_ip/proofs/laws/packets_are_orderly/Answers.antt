use Rattle.ether_ip.proofs.PacketLemmas.{packets_orderly}
use Rattle.ether_ip.proofs.laws.packets_are_orderly.Goals as goal

pub returns : goal.returns
returns c = packets_orderly
