-- The generator `xorshift32` (G. Marsaglia, "Xorshift RNGs", 2003), over 32-bit words.
use Rattle.std.specs.Prelude.{ℕ, zero, suc, ◌*◌, ◌/◌, ◌%◌, ◌^◌, bit_xor}

-- the word moved to the left within 32 bits, and to the right
abbrev pub shifted_left : ℕ → ℕ → ℕ
shifted_left word places = word * 2 ^ places % 2 ^ 32

abbrev pub shifted_right : ℕ → ℕ → ℕ
shifted_right word places = word / 2 ^ places

-- the word after a word, by the shifts 13 to the left, 17 to the right and 5 to the left
unfoldable pub next_word : ℕ → ℕ
next_word word =
    let first = bit_xor word (shifted_left word 13) in
    let second = bit_xor first (shifted_right first 17) in
    bit_xor second (shifted_left second 5)

-- word number i of a seed, from 0 on: the seed is no word itself
unfoldable pub word_at : ℕ → ℕ → ℕ
word_at seed zero = next_word seed
word_at seed (suc i) = next_word (word_at seed i)
