-- Spans and instants as numbers of microseconds that saturate at the ends of their types.
use Rattle.std.specs.Prelude.{ℕ, ◌-◌, ◌^◌, min, ℤ, pos, ◌+ℤ◌, ◌-ℤ◌, unsigned_abs}
use Rattle.std.specs.Int.{int_min}

-- a span, at most the longest one
abbrev pub saturated : ℕ → ℕ
saturated micros = min micros (2 ^ 64 - 1)

-- the instant a span after an instant, at most the last one
abbrev pub instant_after : ℤ → ℕ → ℤ
instant_after instant span = int_min (instant +ℤ pos span) (pos (2 ^ 63 - 1))

-- how far apart two instants are, whichever is first
abbrev pub micros_between : ℤ → ℤ → ℕ
micros_between one other = unsigned_abs (one -ℤ other)
