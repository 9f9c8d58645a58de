use Rattle.std.proofs.Common.{◌≡◌}
use Rattle.wire_base.specs.Xorshift.{next_word, word_at}
use Rattle.host_top.specs.Generator.{first_words}
use Rattle.host_top.proofs.generator.words_of.Given as goal

abbrev pub invariant-loop : goal.invariant-loop
invariant-loop l = record {
  words : l.words.items ≡ first_words l.seed l.counter;
  next : next_word l.word ≡ word_at l.seed l.counter;
}
