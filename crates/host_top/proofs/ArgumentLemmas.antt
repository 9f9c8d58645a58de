-- Arguments by their places.
use Rattle.std.proofs.Common.{◌≡◌, ℕ, zero, suc, ◌+◌, ◌<◌, ◌≤◌, List, [], ◌∷◌, length, get_or, map, ap, sym, ◌∙◌, arith}
use Rattle.std.proofs.lemmas.List.{length-map}

-- the bytes of the argument at a place
pub argument_is : {X : Type 0} (f : X → List ℕ) (words : List X) (place : ℕ) (word : X) (bytes : List ℕ) → place < length words
    → word ≡ get_or words place word → bytes ≡ f word → get_or (map f words) place [] ≡ bytes
argument_is f [] place word bytes below is are = absurd (omega (arith, below))
argument_is f (first ∷ words) zero word bytes below is are = sym (are ∙ ap f is)
argument_is f (first ∷ words) (suc place) word bytes below is are = argument_is f words place word bytes (omega (arith, below)) is are

-- so many arguments
pub arguments_counted : {X : Type 0} (f : X → List ℕ) (words : List X) (n : ℕ) → n ≤ length words → length words < n + 1
    → length (map f words) ≡ n
arguments_counted f words n least below = omega (arith, length-map words f, least, below)
