-- The words of a seed, one after another.
use Rattle.std.proofs.Common.{◌≡◌, ℕ, ◌+◌, [], ◌∷◌, ◌++◌, length, get_or, map, refl, ap, ◌∙◌, sym, add-one, arith}
use Rattle.std.specs.List.{range_with_len}
use Rattle.std.proofs.lemmas.List.{take_all, take_more}
use Rattle.std.proofs.lemmas.List.FromFn.{length-map-range_with_len, take-map-range_with_len, get_or-map-range_with_len}
use Rattle.wire_base.specs.Xorshift.{next_word, word_at}
use Rattle.host_top.specs.Generator.{first_words}

-- the word after a word of the seed
pub word_at_next : (seed i word : ℕ) → word ≡ word_at seed i → next_word word ≡ word_at seed (i + 1)
unfolding word_at
word_at_next seed i word is = rw (add-one, is) refl

pub first_words_none : (seed : ℕ) → [] ≡ first_words seed 0
unfolding first_words
first_words_none seed = refl

-- one word more
pub first_words_more : (seed n word : ℕ) → word ≡ word_at seed n → first_words seed n ++ word ∷ [] ≡ first_words seed (n + 1)
unfolding first_words
first_words_more seed n word is =
    let all = map (word_at seed) (range_with_len 0 (n + 1)) in
    let counted : length all ≡ n + 1 = length-map-range_with_len (word_at seed) 0 (n + 1) in
    sym (sym (take_all (n + 1) all (omega (arith, counted))) ∙ take_more all n 0 (omega (arith, counted))
    ∙ ap (λ l. l ++ get_or all n 0 ∷ []) (take-map-range_with_len (word_at seed) 0 (n + 1) n (omega arith))
    ∙ ap (λ w. map (word_at seed) (range_with_len 0 n) ++ w ∷ [])
    (get_or-map-range_with_len (word_at seed) 0 (n + 1) n n 0 (omega arith) (omega arith) ∙ sym is))

pub length-first_words : (seed n : ℕ) → length (first_words seed n) ≡ n
unfolding first_words
length-first_words seed n = length-map-range_with_len (word_at seed) 0 n
