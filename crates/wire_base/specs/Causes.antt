-- Words on counts of faults, and on known bytes after a call that stopped in between.
use Rattle.std.specs.Prelude.{◌≡◌, ℕ, ◌-◌, ◌^◌, ◌<◌, ◌≤◌, ◌⊎◌, List, ◌++◌, Option, Some, None, ⊤}

-- a count of faults rose, or stands at its last value
abbrev pub IsRisen : ℕ → ℕ → Type 0
IsRisen old new = (old < new) ⊎ (2 ^ 64 - 1 ≤ new)

-- known bytes grow by a front of `bytes`
abbrev pub AppendsFront : Option (List ℕ) → Option (List ℕ) → List ℕ → Type 0
AppendsFront None new bytes = ⊤
AppendsFront (Some before) None bytes = ⊥
AppendsFront (Some before) (Some after) bytes =
    (front : List ℕ) × (rest : List ℕ) × (bytes ≡ front ++ rest) × (after ≡ before ++ front)
