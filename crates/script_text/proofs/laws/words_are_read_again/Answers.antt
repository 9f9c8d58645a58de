-- It is a lemma.
use Rattle.script_text.proofs.ReadBackLemmas.{reads_words}
use Rattle.script_text.proofs.laws.words_are_read_again.Goals as goal

pub returns : goal.returns
returns c = reads_words
