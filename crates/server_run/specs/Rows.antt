-- What a report says of the events that were served.
use Rattle.std.specs.Prelude.{◌≡◌, ℕ, ℤ, pos, ◌⊎◌, List, [], ◌∷◌, ◌++◌, Option, Some, None}
use Rattle.host_model.specs.Script.{Arrival, Tick, Reset, Frame, Query, Event}
use Rattle.lease_server.specs.Holdings.{Call}
use Rattle.lease_server.specs.Values.{Values}
use Rattle.server_run.specs.declared.report.Answered.TheVariants as answered
use Rattle.server_run.specs.declared.report.ServeRow.{ServeRow}
use Rattle.server_run.specs.Answering.{answered_at, calls_with, IsSentAt}
use Rattle.server_run.specs.Asking.{asked_at}

-- the frame that arrived, where one did
abbrev pub frame_of : Arrival → Option (List ℕ)
frame_of Tick = None
frame_of Reset = None
frame_of (Query type_ name) = None
frame_of (Frame bytes) = Some bytes

-- the row of an event, behind the calls of the events before it
pub record IsRowOf (values : Values) (calls : List Call) (event : Event) (row : ServeRow) : Type 0 where
  pub time : row.at ≡ pos event.at
  pub arrived : row.arrived ≡ frame_of event.arrival
  pub answered : row.answered ≡ answered_at values calls event.at (asked_at values event.arrival)
  pub sent : IsSentAt values calls event.at (asked_at values event.arrival) row.sent

-- the calls with that of an event, if it makes one
abbrev pub calls_behind : Values → List Call → Event → List Call
calls_behind values calls event = calls_with values calls event.at (asked_at values event.arrival)

-- The rows are those of the events, one each, behind the calls `calls`.
abbrev pub AreRowsFrom : Values → List Call → List Event → List ServeRow → Type 0
AreRowsFrom values calls [] [] = Unit {0}
AreRowsFrom values calls [] (row ∷ rows) = ⊥
AreRowsFrom values calls (event ∷ events) [] = ⊥
AreRowsFrom values calls (event ∷ events) (row ∷ rows) =
    IsRowOf values calls event row × AreRowsFrom values (calls_behind values calls event) events rows

-- the rows are those of the events that a new server serves
abbrev pub AreRows : Values → List Event → List ServeRow → Type 0
AreRows values events rows = AreRowsFrom values [] events rows

-- a row in which nothing was answered yet
abbrev pub new_row : ℤ → Option (List ℕ) → ServeRow
new_row at arrived = record { at = at; arrived = arrived; answered = answered.Nothing; sent = None }

-- a report has these rows, and at most one behind them
abbrev pub AddsAtMostOne : List ServeRow → List ServeRow → Type 0
AddsAtMostOne rows report = (report ≡ rows) ⊎ ((row : ServeRow) × (report ≡ rows ++ row ∷ []))
