use Rattle.ether_lax.proofs.OneIpLemmas.{one_ip}
use Rattle.ether_lax.proofs.laws.some_bytes_are_one_ip_packet.Goals as goal

pub returns : goal.returns
returns c = λ packet other stop last is is_other. one_ip c.args.slice.now packet other stop last is is_other
