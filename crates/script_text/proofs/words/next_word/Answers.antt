-- The blanks in front count for nothing, and the word ends where it can.
use Rattle.script_text.proofs.WordLemmas.{none_left, found_next}
use Rattle.script_text.proofs.words.next_word.Goals as goal

pub returns-then-len-eq0-clause-none : goal.returns-then-len-eq0-clause-none
returns-then-len-eq0-clause-none c =
    none_left c.args.line.now c.blank_len-start.result c.word_len-len.result c.blank_len-start.ensures.value c.word_len-len.ensures.value c.if-len-eq0.true

pub returns-clause-found : goal.returns-clause-found
returns-clause-found c =
    found_next c.args.line.now c.blank_len-start.result c.word_len-len.result c.blank_len-start.ensures.value c.word_len-len.ensures.value
    c.if-len-eq0.false c.word_len-len.ensures.within
