-- It is a lemma.
use Rattle.capture_explain.proofs.OneFileLemmas.{are_one}
use Rattle.capture_explain.proofs.laws.captures_have_one_explanation.Goals as goal

pub returns : goal.returns
returns c = are_one
