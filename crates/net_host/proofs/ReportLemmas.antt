-- The last row of a report.
use Rattle.std.proofs.Common.{◌≡◌, ℕ, ◌-◌, List, [], ◌∷◌, ◌++◌, length, get_or, set, ap, ◌∙◌, arith, length-append}
use Rattle.std.proofs.lemmas.List.{set_at, get_or_at}

-- the place of the last element
pub last_place : {X : Type 0} (xs before : List X) (x : X) (n : ℕ) → xs ≡ before ++ x ∷ [] → n ≡ length xs → length before ≡ n - 1
last_place xs before x n same is_length =
    let counted : length xs ≡ length (before ++ x ∷ []) = ap length same in
    omega (arith, counted, length-append before (x ∷ []))

pub last_is : {X : Type 0} (xs before : List X) (x d : X) (n : ℕ) → xs ≡ before ++ x ∷ [] → n ≡ length xs → get_or xs (n - 1) d ≡ x
last_is xs before x d n same is_length =
    ap (λ l. get_or l (n - 1) d) same ∙ get_or_at before x [] d (n - 1) (last_place xs before x n same is_length)

pub last_set : {X : Type 0} (xs before : List X) (x y : X) (n : ℕ) → xs ≡ before ++ x ∷ [] → n ≡ length xs → set xs (n - 1) y ≡ before ++ y ∷ []
last_set xs before x y n same is_length =
    ap (λ l. set l (n - 1) y) same ∙ set_at before x [] y (n - 1) (last_place xs before x n same is_length)
