use Rattle.ether_lax.proofs.AgreeLemmas.{agreed}
use Rattle.ether_lax.proofs.laws.dissectors_agree.Goals as goal

pub returns : goal.returns
returns c = λ first start packet headers holds holds_headers finds. agreed c.args.frame.now first start packet headers holds holds_headers finds
