-- Text, and what writing it piece by piece does to a sink.
use Rattle.std.specs.Prelude.{ℕ, ◌+◌, ◌-◌, ◌/◌, ◌%◌, nat_lt, Bool, if◌then◌else◌, List, [], ◌∷◌, ◌++◌, length, replicate, Option, Result}
use Rattle.std.specs.Fmt.{decimal}
use Rattle.phy_layers.specs.declared.byte_sink.SinkError.{SinkError}
use Rattle.phy_layers.specs.Sink.{Took}

-- the digits of a number with leading zeros, at least six of them
abbrev pub six_digits : ℕ → List ℕ
six_digits number = replicate (6 - length (decimal number)) 48 ++ decimal number

-- the last hexadecimal digit of a number, in lower case
abbrev pub hexadecimal_digit : ℕ → ℕ
hexadecimal_digit number = if nat_lt (number % 16) 10 then 48 + number % 16 else 87 + number % 16

-- its last eight
abbrev pub hexadecimal : ℕ → List ℕ
hexadecimal number =
    hexadecimal_digit (number / 0x10000000) ∷ hexadecimal_digit (number / 0x1000000)
    ∷ hexadecimal_digit (number / 0x100000)
    ∷ hexadecimal_digit (number / 0x10000)
    ∷ hexadecimal_digit (number / 0x1000)
    ∷ hexadecimal_digit (number / 0x100)
    ∷ hexadecimal_digit (number / 0x10)
    ∷ hexadecimal_digit number ∷ []

-- Whatever was handed to the sink before, with the answer `before`: the piece was handed to it behind that,
-- and both together have the answer `after`.
pub record Puts {S : Type 0} (bytes : S → Option (List ℕ)) (faults : S → ℕ) (grows : Bool)
    (before after : Result (Unit {0}) SinkError) (piece : List ℕ) (old new : S) : Type 0 where
  pub goes_on : (start : S) (handed : List ℕ) → Took bytes faults grows before handed start old
      → Took bytes faults grows after (handed ++ piece) start new
