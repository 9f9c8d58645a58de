-- The sum of the words of one list behind another.
use Rattle.std.proofs.Common.{◌≡◌, ℕ, ◌+◌, ◌-◌, ◌*◌, List, [], ◌∷◌, ◌++◌, length, arith}
use Rattle.wire_base.specs.Checksum.{word_sum}

pub word_sum-append : (words : ℕ) (front bytes : List ℕ) → length front ≡ 2 * words → word_sum (front ++ bytes) ≡ word_sum front + word_sum bytes
word_sum-append words [] bytes even = omega arith
word_sum-append words (last ∷ []) bytes odd = absurd (omega arith)
word_sum-append words (high ∷ low ∷ front) bytes even = omega (arith, word_sum-append (words - 1) front bytes (omega arith))
