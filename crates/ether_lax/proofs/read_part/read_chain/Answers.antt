use Rattle.ether_lax.proofs.MapLemmas.{chain_refuses}
use Rattle.ether_lax.proofs.read_part.read_chain.Goals as goal

pub returns-in-Err : goal.returns-in-Err
returns-in-Err c = rw c.refusal_of.ensures (chain_refuses c.args.kind c.args.bytes.now c.in-Err.error c.requires c.in-Err.ensures.value)
