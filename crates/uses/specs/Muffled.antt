-- The events of a script without its frames.
use Rattle.std.specs.Prelude.{ℕ, List, map}
use Rattle.host_model.specs.Classes.{IsScript}
use Rattle.host_model.specs.Script.{Arrival, Tick, Reset, Frame, Query, Event}
use Rattle.host_model.specs.Settings.{Settings}
use Rattle.net_host.specs.declared.report.Row.{Row}
use Rattle.net_host.specs.Rows.{AreRows}

abbrev pub arrival_without : Arrival → Arrival
arrival_without Tick = Tick
arrival_without Reset = Reset
arrival_without (Frame bytes) = Tick
arrival_without (Query type_ name) = Query type_ name

-- time passes where a frame came
abbrev pub event_without : Event → Event
event_without event = record { at = event.at; arrival = arrival_without event.arrival }

-- the bytes are a script of at most 1000 events, and the rows are those of a run in which no frame arrives
pub record HasRowsWithout (settings : Settings) (words bytes : List ℕ) (rows : List Row) : Type 0 where
  pub events : List Event
  pub script : IsScript 1000 bytes events
  pub answered : AreRows settings words (map event_without events) rows
