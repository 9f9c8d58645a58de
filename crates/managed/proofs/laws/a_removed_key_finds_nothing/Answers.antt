use Rattle.managed.proofs.LawLemmas.{gone}
use Rattle.managed.proofs.laws.a_removed_key_finds_nothing.Goals as goal

pub returns : goal.returns
returns c = gone
