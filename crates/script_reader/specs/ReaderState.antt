-- What a contract sees of a reader of events.
use Rattle.std.specs.Prelude.{ℕ, ◌+◌, List, [], Bool, true, false, Option, Some, None}

-- The bytes and the number of the events that came, the time of the last one in microseconds, the most events
-- there may be, once it was told, whether no event comes any more, and the bytes that the last event brought:
-- its frame or its name, if it has one.
pub record ReaderState : Type 0 where
  pub offset : ℕ
  pub events : ℕ
  pub last : ℕ
  pub max_events : Option ℕ
  pub is_through : Bool
  pub brought : List ℕ

-- no event came yet
abbrev pub at_start : ReaderState
at_start = record { offset = 0; events = 0; last = 0; max_events = None; is_through = false; brought = [] }

-- one event more, of so many bytes, at a time, and what it brought
abbrev pub moved_by : ℕ → ℕ → ℕ → List ℕ → ReaderState → ReaderState
moved_by max len at brought state = record {
  offset = state.offset + len;
  events = state.events + 1;
  last = at;
  max_events = Some max;
  is_through = false;
  brought = brought;
}

-- no event came, and none will
abbrev pub through_with : ℕ → ReaderState → ReaderState
through_with max state = record state { max_events = Some max; is_through = true; brought = [] }
