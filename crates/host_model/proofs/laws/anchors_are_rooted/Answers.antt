use Rattle.host_model.proofs.RootLemmas.{rooted}
use Rattle.host_model.proofs.laws.anchors_are_rooted.Goals as goal

pub returns : goal.returns
returns c = rooted
