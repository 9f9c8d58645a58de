use Rattle.phy_layers.proofs.FaultLemmas as lemmas
use Rattle.phy_layers.proofs.laws.a_passing_frame_is_whole_or_has_one_bit_flipped.Goals as goal

pub returns : goal.returns
returns c = lemmas.whole_or_one_bit
