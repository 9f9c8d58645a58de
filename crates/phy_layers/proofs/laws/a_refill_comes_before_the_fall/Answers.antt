use Rattle.phy_layers.proofs.FaultLemmas as lemmas
use Rattle.phy_layers.proofs.laws.a_refill_comes_before_the_fall.Goals as goal

pub returns : goal.returns
returns c = lemmas.rates
