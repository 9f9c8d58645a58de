-- It is a lemma.
use Rattle.script_text.proofs.TextLemmas.{reads_texts}
use Rattle.script_text.proofs.laws.texts_are_read_again.Goals as goal

pub returns : goal.returns
returns c = λ max events in_order few bytes. reads_texts max events in_order few bytes
