-- A walk along words.
use Rattle.std.proofs.Common.{◌≡◌, ℕ, zero, suc, ◌+◌, ◌<◌, List, [], ◌∷◌, ◌++◌, length, get_or, take, map, sym, ap, add-one, arith}

-- the words before one, that one, and the words behind it
pub split_at : {X : Type 0} (f : X → List ℕ) (words : List X) (i : ℕ) (word : X) → i < length words → word ≡ get_or words i word
    → (rest : List (List ℕ)) × (map f words ≡ map f (take i words) ++ f word ∷ rest)
split_at f [] i word within is = absurd (omega (arith, within))
split_at f (w ∷ words) zero word within is = (map f words, ap (λ v. f v ∷ map f words) (sym is))
split_at f (w ∷ words) (suc i) word within is =
    let tails = split_at f words i word (omega (arith, within)) is in (tails.0, ap (λ l. f w ∷ l) tails.1)

-- the words up to one
pub front_more : {X : Type 0} (f : X → List ℕ) (words : List X) (i : ℕ) (word : X) → i < length words → word ≡ get_or words i word
    → map f (take i words) ++ f word ∷ [] ≡ map f (take (i + 1) words)
front_more f [] i word within is = absurd (omega (arith, within))
front_more f (w ∷ words) zero word within is = ap (λ v. f v ∷ []) is
front_more f (w ∷ words) (suc i) word within is =
    let tails = rw add-one at (front_more f words i word (omega (arith, within)) is) in rw add-one (ap (λ l. f w ∷ l) tails)
