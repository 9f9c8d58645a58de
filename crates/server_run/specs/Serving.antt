-- What one event leaves in the server, the report and the capture.
use Rattle.std.specs.Prelude.{◌≡◌, ℕ, ◌⊎◌, ℤ, List, [], ◌∷◌, ◌++◌, Option, None}
use Rattle.std.specs.Io.KnownBytes.{Appends, Keeps}
use Rattle.wire_base.specs.Causes.{AppendsFront}
use Rattle.phy_layers.specs.PcapBytes.{epoch_micros}
use Rattle.net_wire.specs.DhcpMessage.{Message}
use Rattle.lease_server.specs.Calls.{Agrees}
use Rattle.lease_server.specs.Holdings.{Call}
use Rattle.lease_server.specs.State.{ServerState}
use Rattle.lease_server.specs.Values.{Values}
use Rattle.script_reader.specs.declared.script.ScriptEvent.{ScriptEvent}
use Rattle.script_reader.specs.Reading.{arrival_of, event_at}
use Rattle.server_run.specs.declared.answering.Given.{Given}
use Rattle.server_run.specs.declared.report.ServeRow.{ServeRow}
use Rattle.server_run.specs.Answering.{answered_at, calls_with, IsSentAt}
use Rattle.server_run.specs.Asking.{Asked}
use Rattle.server_run.specs.Captured.{frame_record, row_records}
use Rattle.server_run.specs.Rows.{calls_behind, frame_of, IsRowOf, new_row}

-- a message without a request list and without options of a caller
pub record IsPlain (message : Message) : Type 0 where
  pub request_list : message.parameter_request_list ≡ None
  pub options : message.additional_options ≡ []

-- what was asked at a time is answered so, and the server is as the calls with this one say
pub record AnswersAsked (values : Values) (calls : List Call) (at : ℕ) (asked : Asked) (given : Given)
    (server : ServerState) : Type 0 where
  pub answered : given.answered ≡ answered_at values calls at asked
  pub sent : IsSentAt values calls at asked given.sent
  pub agrees : Agrees values (calls_with values calls at asked) server

-- the server, the bytes of the capture where they are told, and the report
pub record Standing : Type 0 where
  pub server : ServerState
  pub captured : Option (List ℕ)
  pub report : List ServeRow

abbrev pub standing : ServerState → Option (List ℕ) → List ServeRow → Standing
standing server captured report = record { server = server; captured = captured; report = report }

-- the report has one row more: that of the event
pub record PlacesRow (values : Values) (calls : List Call) (at : ℤ) (event : ScriptEvent)
    (old new : Standing) : Type 0 where
  pub row : ServeRow
  pub placed : new.report ≡ old.report ++ row ∷ []
  pub row_of : IsRowOf values calls (event_at at event) row
  pub agrees : Agrees values (calls_behind values calls (event_at at event)) new.server

-- and the capture grew by the records of the row
pub record TakesEvent (values : Values) (calls : List Call) (at : ℤ) (event : ScriptEvent)
    (old new : Standing) : Type 0 where
  pub places : PlacesRow values calls at event old new
  pub captured : Appends old.captured new.captured (row_records places.row)

-- the row is not placed
pub record LeavesNoRow (old new : Standing) : Type 0 where
  pub same : new.report ≡ old.report
  pub kept : Keeps old.captured new.captured

-- The row is placed, and nothing was answered yet. The capture grew by a front of the record of the frame
-- that arrived, if one did.
pub record LeavesNewRow (at : ℤ) (event : ScriptEvent) (old new : Standing) : Type 0 where
  pub placed : new.report ≡ old.report ++ new_row at (frame_of (arrival_of event)) ∷ []
  pub captured : AppendsFront old.captured new.captured
      (frame_record (epoch_micros at) (frame_of (arrival_of event)))

-- the row is that of the event, and the capture grew by a front of its records
pub record LeavesFront (values : Values) (calls : List Call) (at : ℤ) (event : ScriptEvent)
    (old new : Standing) : Type 0 where
  pub places : PlacesRow values calls at event old new
  pub captured : AppendsFront old.captured new.captured (row_records places.row)

-- what an event leaves that was not taken in to its end, once its row is placed
abbrev pub LeavesRow : Values → List Call → ℤ → ScriptEvent → Standing → Standing → Type 0
LeavesRow values calls at event old new =
    LeavesNewRow at event old new ⊎ LeavesFront values calls at event old new

-- and before
abbrev pub LeavesEvent : Values → List Call → ℤ → ScriptEvent → Standing → Standing → Type 0
LeavesEvent values calls at event old new = LeavesNoRow old new ⊎ LeavesRow values calls at event old new
