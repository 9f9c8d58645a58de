use Rattle.std.proofs.Common.{◌≡◌, ◌∷◌, [], ◌++◌, refl, rules, ap, ◌∙◌}
use Rattle.wire_base.specs.Xorshift.{word_at}
use Rattle.host_top.proofs.WordLemmas.{word_at_next, first_words_none, first_words_more}
use Rattle.host_top.proofs.generator.words_of.Goals as goal

pub loop-init : goal.loop-init
unfolding word_at
loop-init c = record { words = c.new-words.ensures.items ∙ first_words_none c.args.seed; next = refl }

pub loop-preserved : goal.loop-preserved
loop-preserved c =
    let word = c.xorshift32-word.ensures ∙ c.loop.invariant.next in
    let pushed : c.push.new.self.items ≡ c.loop.words.items ++ c.xorshift32-word.result ∷ [] = search rules in
    record {
      words = pushed ∙ ap (λ l. l ++ c.xorshift32-word.result ∷ []) c.loop.invariant.words
          ∙ first_words_more c.args.seed c.loop.counter c.xorshift32-word.result word;
      next = word_at_next c.args.seed c.loop.counter c.xorshift32-word.result word;
    }
