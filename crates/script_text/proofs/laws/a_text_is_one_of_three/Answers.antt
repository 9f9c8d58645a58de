-- It is a lemma.
use Rattle.script_text.proofs.VerdictLemmas.{one_of_three}
use Rattle.script_text.proofs.laws.a_text_is_one_of_three.Goals as goal

pub returns : goal.returns
returns c = one_of_three
