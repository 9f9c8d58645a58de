use Rattle.ether_lax.proofs.AgreeLemmas.{agreed}
use Rattle.ether_lax.proofs.packet_headers.LaxPacketHeaders.from_ethernet.Goals as goal

pub returns-clause-agrees : goal.returns-clause-agrees
returns-clause-agrees c = λ packet holds finds.
    agreed c.args.slice.now _ _ packet c.headers.result holds (rw c.first.ensures at c.headers.ensures.value) finds
