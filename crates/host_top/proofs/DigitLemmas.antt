-- Numbers that digits write.
use Rattle.std.proofs.Common.{◌≡◌, ℕ, zero, suc, ◌+◌, ◌*◌, ◌^◌, ◌<◌, ◌≤◌, List, [], ◌∷◌, length, get_or, take, arith, lit<}
use Rattle.std.proofs.Math.Nat.{pow-le-pow_left, pow-le-pow_right, mul-le-mul_left}
use Rattle.std.proofs.lemmas.List.{length-take}
use Rattle.std.specs.Char.{digit_value}
use Rattle.std.specs.Str.Parse.{AllDigits, digits_value}
use Rattle.std.proofs.lemmas.Int.Digits.{digits_value-lt}

-- eleven digits write a small number
pub digits_value_small : (radix : ℕ) (digits : List ℕ) → radix ≤ 16 → AllDigits radix digits → length digits ≤ 11
    → digits_value radix digits < 16 ^ 11
digits_value_small radix digits small are short =
    let below : digits_value radix digits < radix ^ length digits = digits_value-lt radix digits are in
    let in_hexadecimal : radix ^ length digits ≤ 16 ^ length digits = pow-le-pow_left small (length digits) in
    let in_eleven : 16 ^ length digits ≤ 16 ^ 11 = pow-le-pow_right {n = 16} (lit< tt) short in
    omega (arith, below, in_hexadecimal, in_eleven)

-- the digits before another one of at most twelve
pub front_small : (radix : ℕ) (word : List ℕ) (i number : ℕ) → radix ≤ 16 → AllDigits radix (take i word)
    → number ≡ digits_value radix (take i word) → i < 12 → number < 16 ^ 11
front_small radix word i number small are value within =
    omega (arith, value, digits_value_small radix (take i word) small are (omega (arith, length-take i word)))

-- one digit more still fits
pub next_fits : (number radix digit : ℕ) → number < 16 ^ 11 → radix ≤ 16 → digit < radix → number * radix + digit < 2 ^ 64
next_fits number radix digit small is_radix is_digit =
    omega (arith, mul-le-mul_left number is_radix)

pub digit_at : (radix : ℕ) (digits : List ℕ) (i : ℕ) → AllDigits radix digits → i < length digits → digit_value (get_or digits i 0) < radix
digit_at radix [] i are within = absurd (omega arith)
digit_at radix (digit ∷ digits) zero are within = are.0
digit_at radix (digit ∷ digits) (suc i) are within = digit_at radix digits i are.1 (omega arith)
