use Rattle.phy_layers.proofs.FaultLemmas as lemmas
use Rattle.phy_layers.proofs.laws.a_frame_over_the_size_is_dropped_before_or_after_a_draw.Goals as goal

pub returns : goal.returns
returns c = lemmas.sizes
