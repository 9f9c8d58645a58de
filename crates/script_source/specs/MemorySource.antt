-- What a contract sees of a source in memory, and what a read gives and leaves.
use Rattle.std.specs.Prelude.{ℕ, List, [], length, take, drop, min, if◌then◌else◌}
use Rattle.phy_layers.specs.Calls.{Calls, fails_next, after_call}

-- the bytes still to come, the most that a call gives, and its calls
pub record SourceState : Type 0 where
  pub left : List ℕ
  pub chunk : ℕ
  pub calls : Calls

-- what a read into so many places gives: nothing where its number is to fail
abbrev pub given : SourceState → ℕ → List ℕ
given source places = if fails_next source.calls then [] else take (min source.chunk places) source.left

-- the source after a read
abbrev pub after_read : SourceState → ℕ → SourceState
after_read source places = record source {
  left = drop (length (given source places)) source.left;
  calls = after_call (fails_next source.calls) source.calls;
}
