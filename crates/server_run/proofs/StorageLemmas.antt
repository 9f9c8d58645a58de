-- Empty places.
use Rattle.std.proofs.Common.{◌≡◌, ℕ, zero, suc, List, Option, None, replicate, sym, subst}
use Rattle.managed.specs.SortedMap.{IsVacant}

all_empty : (X : Type 0) (count : ℕ) → (let places : List (Option X) = replicate count None in IsVacant places)
all_empty X zero = tt
all_empty X (suc count) = all_empty X count

pub vacant : {X : Type 0} (count : ℕ) (places : List (Option X)) → places ≡ replicate count None → IsVacant places
vacant {X} count places same =
    let P : List (Option X) → Type 0 = λ all. IsVacant all in
    subst P (sym same) (all_empty X count)
