-- Pieces of bytes.
use Rattle.std.proofs.Common.{◌≡◌, ℕ, ◌+◌, ◌≤◌, List, ◌++◌, length, take, drop, ap, sym, ◌∙◌, refl, arith}
use Rattle.std.proofs.lemmas.List.{take-append-drop, drop-drop, take_at, length-take, take-append-le}
use Rattle.std.proofs.Math.Seq.{take-append-add}

-- what is left is what was given and what is left then
pub given : (bytes copied rest : List ℕ) (at count : ℕ) → copied ≡ take count (drop at bytes) → length copied ≡ count
    → drop at bytes ≡ take count (copied ++ rest) ++ drop (at + count) bytes
given bytes copied rest at count is_front is_long =
    rw (take_at copied rest count is_long, is_front, ← drop-drop count at bytes, take-append-drop count (drop at bytes)) refl

-- the front of a buffer after a part of it was written
pub take_part : (at count : ℕ) (xs ys rest : List ℕ) → at ≤ length xs → count ≤ length ys
    → take (at + count) (take at xs ++ (ys ++ rest)) ≡ take at xs ++ take count ys
take_part at count xs ys rest within fits =
    let front : length (take at xs) ≡ at = omega (arith, length-take at xs) in
    ap (λ n. take (n + count) (take at xs ++ (ys ++ rest))) (sym front) ∙ take-append-add (take at xs) (ys ++ rest) count
    ∙ ap (λ l. take at xs ++ l) (take-append-le count ys rest fits)
