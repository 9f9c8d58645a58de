-- Lists of bytes and their parts.
use Rattle.std.proofs.Common.{◌≡◌, ℕ, zero, suc, ◌+◌, ◌-◌, ◌<◌, ◌≤◌, List, [], ◌∷◌, ◌++◌, length, get_or, take, drop, slice_index, slice_range, refl, sym, append_assoc, arith, length-take, length-drop}
use Rattle.std.specs.List.{All}
use Rattle.std.specs.Int.{to_be_bytes, w32}
use Rattle.std.proofs.lemmas.List.Elements.{All-take, All-drop}
use Rattle.std.proofs.lemmas.List.{take-append-drop}
use Rattle.std.proofs.lemmas.Nat.{be_bytes_4}
use Rattle.wire_base.specs.Bytes.{be32_at}

-- the elements of a list of bytes, and 0 past its end
byte_at : (bytes : List ℕ) (i : ℕ) → All (λ byte. byte < 256) bytes → get_or bytes i 0 < 256
byte_at [] i all = omega arith
byte_at (byte ∷ bytes) zero all = all 0 0 (omega arith)
byte_at (byte ∷ bytes) (suc i) all = byte_at bytes i (λ k d within. all (suc k) d (omega (arith, within)))

-- a number that four bytes make is written as these bytes
pub to_be_bytes-be32_at : (bytes : List ℕ) (at : ℕ) → All (λ byte. byte < 256) bytes → at + 4 ≤ length bytes
    → to_be_bytes w32 (be32_at bytes at) ≡ slice_range bytes at (at + 4)
to_be_bytes-be32_at bytes at all within =
    let four : length (slice_range bytes at (at + 4)) ≡ 4 = grind (arith, length-take, length-drop) in
    be_bytes_4 (slice_range bytes at (at + 4)) (be32_at bytes at) four
    (λ i. byte_at (slice_range bytes at (at + 4)) i
    (All-take (λ byte. byte < 256) (at + 4 - at) (drop at bytes)
    (All-drop (λ byte. byte < 256) at bytes all))) refl

-- the first two bytes
pub take-two : (bytes : List ℕ) → 2 ≤ length bytes
    → take 2 bytes ≡ slice_index bytes 0 ∷ slice_index bytes 1 ∷ []
take-two [] within = absurd (omega (arith, within))
take-two (one ∷ []) within = absurd (omega (arith, within))
take-two (one ∷ two ∷ rest) within = refl

-- the part from byte 12 up to a place that is there
pub length-part : (bytes : List ℕ) (end : ℕ) → end ≤ length bytes
    → length (slice_range bytes 12 end) ≡ end - 12
length-part bytes end within = grind (arith, length-take, length-drop)

-- a list is its front and its rest
pub joined : (n : ℕ) (bytes front rest : List ℕ) → take n bytes ≡ front → drop n bytes ≡ rest
    → bytes ≡ front ++ rest
joined n bytes front rest is_front is_rest = rw (← is_front, ← is_rest) (sym (take-append-drop n bytes))

-- four parts in a row, whichever are joined first
pub regrouped : (a b c d : List ℕ) → a ++ b ++ c ++ d ≡ a ++ (b ++ (c ++ d))
regrouped a b c d = simp append_assoc
