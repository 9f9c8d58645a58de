-- What a contract sees of a sink in memory, and what its calls leave.
use Rattle.std.specs.Prelude.{ℕ, ◌+◌, ◌-◌, Bool, ◌||◌, List, [], ◌++◌, length, take, nat_lt, if◌then◌else◌}
use Rattle.phy_layers.specs.Calls.{Calls, fails_next, after_call}

-- the bytes that were taken, how many it has room for, and its calls
pub record SinkState : Type 0 where
  pub bytes : List ℕ
  pub room : ℕ
  pub calls : Calls

-- a write fails where its number is to fail, or where the piece does not fit
abbrev pub refuses : SinkState → List ℕ → Bool
refuses sink piece = fails_next sink.calls || nat_lt sink.room (length sink.bytes + length piece)

-- what a write takes of a piece: nothing where its number is to fail, else what fits
abbrev pub taken : SinkState → List ℕ → List ℕ
taken sink piece = if fails_next sink.calls then [] else take (sink.room - length sink.bytes) piece

-- the sink after a write
abbrev pub after_write : SinkState → List ℕ → SinkState
after_write sink piece = record sink {
  bytes = sink.bytes ++ taken sink piece;
  calls = after_call (refuses sink piece) sink.calls;
}

-- the sink after a flush
abbrev pub after_flush : SinkState → SinkState
after_flush sink = record sink { calls = after_call (fails_next sink.calls) sink.calls }
