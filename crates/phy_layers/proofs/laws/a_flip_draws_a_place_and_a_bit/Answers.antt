use Rattle.phy_layers.proofs.FaultLemmas as lemmas
use Rattle.phy_layers.proofs.laws.a_flip_draws_a_place_and_a_bit.Goals as goal

pub returns : goal.returns
returns c = lemmas.flips
