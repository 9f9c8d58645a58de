-- It is a lemma.
use Rattle.script_text.proofs.ValidLemmas.{has_script}
use Rattle.script_text.proofs.laws.right_texts_are_scripts.Goals as goal

pub returns : goal.returns
returns c = λ max text events is. has_script max text events is
