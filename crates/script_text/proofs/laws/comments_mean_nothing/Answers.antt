-- It is a lemma.
use Rattle.script_text.proofs.TextLemmas.{reads_commented}
use Rattle.script_text.proofs.laws.comments_mean_nothing.Goals as goal

pub returns : goal.returns
returns c = λ max events comment in_order few bytes all. reads_commented max events comment in_order few bytes all
