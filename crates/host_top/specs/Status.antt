-- The status that the program ends with, and why.
use Rattle.std.specs.Prelude.{◌≡◌, ℕ, ◌⊎◌, List}
use Rattle.host_model.specs.Classes.{IsValidScript, IsBrokenAt, IsOverLimit}

-- the status is this one, or a fault of the output or want of memory replaced it
abbrev pub IsUnlessReplaced : ℕ → ℕ → Type 0
IsUnlessReplaced status result = (result ≡ status) ⊎ ((result ≡ 6) ⊎ (result ≡ 7))

-- the status comes exactly where the fact holds, unless it is replaced
pub record ComesExactly (status : ℕ) (P : Type 0) (result : ℕ) : Type 0 where
  pub only : result ≡ status → P
  pub always : P → IsUnlessReplaced status result

-- the status is this one, or memory ran out
abbrev pub IsUnlessNoMemory : ℕ → ℕ → Type 0
IsUnlessNoMemory status result = (result ≡ status) ⊎ (result ≡ 7)

-- the status of a run by the bytes of its script
pub record IsStatusOf (max result : ℕ) (bytes : List ℕ) : Type 0 where
  pub valid : IsValidScript max bytes → IsUnlessNoMemory 0 result
  pub broken : (offset : ℕ) → IsBrokenAt max bytes offset → IsUnlessNoMemory 2 result
  pub over : IsOverLimit max bytes → IsUnlessNoMemory 3 result
