use Rattle.made_script.proofs.OneLemmas.{makes_one}
use Rattle.made_script.proofs.laws.makes_one.Goals as goal

pub returns : goal.returns
returns c = makes_one
