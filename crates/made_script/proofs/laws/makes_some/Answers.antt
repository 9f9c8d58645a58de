use Rattle.made_script.proofs.SomeLemmas.{makes_some}
use Rattle.made_script.proofs.laws.makes_some.Goals as goal

pub returns : goal.returns
returns c = makes_some
