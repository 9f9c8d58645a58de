-- The internet checksum (RFC 1071, sections 1 and 2).
use Rattle.std.specs.Prelude.{◌≡◌, ℕ, ◌+◌, ◌*◌, ◌%◌, List, [], ◌∷◌}

-- the sum of the 16-bit words, an odd last byte padded with a zero byte on the right
abbrev pub word_sum : List ℕ → ℕ
word_sum [] = 0
word_sum (last ∷ []) = 256 * last
word_sum (high ∷ low ∷ bytes) = 256 * high + low + word_sum bytes

-- the words sum to zero in one's complement arithmetic, where FFFF and 0000 are one number
abbrev pub SumsToZero : List ℕ → Type 0
SumsToZero bytes = word_sum bytes % 65535 ≡ 0
