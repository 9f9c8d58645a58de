-- Calls that fail by their numbers.
use Rattle.std.specs.Prelude.{ℕ, ◌+◌, ◌-◌, ◌^◌, ◌==◌, Bool, List, nat_lt, if◌then◌else◌}
use Rattle.std.specs.List.{list_any}

-- the numbers of the calls that fail, and how many calls came and how many failed so far
pub record Calls : Type 0 where
  pub fails : List ℕ
  pub count : ℕ
  pub faults : ℕ

-- no call came yet
abbrev pub no_calls : List ℕ → Calls
no_calls fails = record { fails = fails; count = 0; faults = 0 }

-- the count after one more, which stays at the last value of a `u64`
abbrev pub counted : ℕ → ℕ
counted count = if nat_lt count (2 ^ 64 - 1) then count + 1 else count

-- whether the number of the next call, the first one's being 1, is among those that fail
abbrev pub fails_next : Calls → Bool
fails_next calls = list_any (λ number. number == counted calls.count) calls.fails

-- one call more, which failed or did not
abbrev pub after_call : Bool → Calls → Calls
after_call failed calls = record calls {
  count = counted calls.count;
  faults = if failed then counted calls.faults else calls.faults;
}
