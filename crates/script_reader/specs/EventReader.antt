-- What the fields of a reader of events stand for.
use Rattle.std.specs.Prelude.{◌≡◌, ◌*◌, ◌≤◌, take, vec_len}
use Rattle.script_reader.specs.declared.event_reader.EventReader.TheInside.{Inside}
use Rattle.script_reader.specs.ReaderState.{ReaderState}

abbrev pub state_inside : Inside → ReaderState
state_inside reader = record {
  offset = reader.offset;
  events = reader.events;
  last = reader.last_micros;
  max_events = reader.max_events;
  is_through = reader.is_through;
  brought = take reader.len reader.rest.items;
}

-- an event has at most 65546 bytes, and brings at most 65535 of them
pub record IsPlacedInside (reader : Inside) : Type 0 where
  pub placed : reader.offset ≤ 65546 * reader.events
  pub room : vec_len reader.rest ≡ 65535
  pub len : reader.len ≤ 65535
