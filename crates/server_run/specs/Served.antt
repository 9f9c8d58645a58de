-- What a run of a server leaves, whatever it answers.
use Rattle.std.specs.Prelude.{◌≡◌, ℕ, ◌<◌, ◌≤◌, ◌⊎◌, List, [], ◌∷◌, ◌++◌, length, pos, IfSome, Result, IsOk}
use Rattle.std.specs.Result.{IsErrOf}
use Rattle.std.specs.Io.KnownBytes.{Appends, IsAtEnd}
use Rattle.wire_base.specs.Causes.{AppendsFront, IsRisen}
use Rattle.host_model.specs.Script.{Event, AreInOrder}
use Rattle.host_model.specs.Classes.{IsScript, IsOverLimit, IsBrokenAt}
use Rattle.lease_server.specs.Values.{Values}
use Rattle.net_host.specs.Outside.{Outside, IsQuiet}
use Rattle.net_host.specs.Run.{EndsBy, Stopped, Interrupted}
use Rattle.script_reader.specs.declared.script.ReadEventError.TheVariants as read
use Rattle.server_run.specs.declared.report.ServeRow.{ServeRow}
use Rattle.server_run.specs.declared.serve_error.ServeError.{ServeError}
use Rattle.server_run.specs.declared.serve_error.ServeError.TheVariants.{Script, Limit, Read, Sink, NoMemory}
use Rattle.server_run.specs.Captured.{serve_capture}
use Rattle.server_run.specs.Rows.{AreRows, frame_of, new_row}

-- the events have their rows, and the capture grew by its header and the frames of the rows
pub record AreServed (values : Values) (before after : Outside) (report : List ServeRow)
    (events : List Event) : Type 0 where
  pub rows : AreRows values events report
  pub captured : Appends before.captured after.captured (serve_capture report)

-- A run that ended well. The source was read to its end; where it told its bytes, they were a script of these
-- events, and all of them are served.
pub record Finished (values : Values) (max : ℕ) (before after : Outside) (report : List ServeRow)
    : Type 0 where
  pub events : List Event
  pub script : IfSome before.left (λ bytes. IsScript max bytes events)
  pub in_order : AreInOrder 0 events
  pub few : length events ≤ max
  pub ended : IsAtEnd after.left
  pub served : AreServed values before after report events

-- the last row is that of an event to which nothing was answered yet
pub record IsUnfinished (values : Values) (report : List ServeRow) (events : List Event) : Type 0 where
  pub earlier : List Event
  pub event : Event
  pub done : List ServeRow
  pub event_last : events ≡ earlier ++ event ∷ []
  pub row_last : report ≡ done ++ new_row (pos event.at) (frame_of event.arrival) ∷ []
  pub rows : AreRows values earlier done

-- the last event has no row yet
pub record LacksRow (values : Values) (report : List ServeRow) (events : List Event) : Type 0 where
  pub earlier : List Event
  pub event : Event
  pub event_last : events ≡ earlier ++ event ∷ []
  pub rows : AreRows values earlier report

-- the events have their rows, but the last one may be unfinished
abbrev pub HasRows : Values → List ServeRow → List Event → Type 0
HasRows values report events = AreRows values events report ⊎ IsUnfinished values report events

-- and the last one may be missing
abbrev pub HasMostRows : Values → List ServeRow → List Event → Type 0
HasMostRows values report events = HasRows values report events ⊎ LacksRow values report events

-- the events have such rows, and the capture is a front of that of the rows
pub record AreBegun (before after : Outside) (report : List ServeRow) (Rows : List Event → Type 0)
    (events : List Event) : Type 0 where
  pub rows : Rows events
  pub captured : AppendsFront before.captured after.captured (serve_capture report)

-- what a run leaves that did not end well, by its answer
abbrev pub Leaves : Values → ℕ → Outside → Outside → List ServeRow → ServeError → Type 0
Leaves values max before after report (Script offset) =
    Stopped max before after (AreServed values before after report)
    (λ taken. (offset ≡ length taken.front) × EndsBy (read.Script offset) taken)
Leaves values max before after report Limit =
    Stopped max before after (AreServed values before after report)
    (λ taken. (length taken.events ≡ max) × EndsBy read.Limit taken)
Leaves values max before after report Read =
    Stopped max before after (AreServed values before after report)
    (λ taken. (0 < length taken.part → length taken.events < max) × EndsBy read.Read taken)
Leaves values max before after report Sink =
    Interrupted max before after (AreBegun before after report (HasRows values report))
Leaves values max before after report NoMemory =
    Interrupted max before after (AreBegun before after report (HasMostRows values report))

-- Why a run did not end well, by its answer: the bytes of the script, or a count of faults that rose; want of
-- memory is free. No other count of faults changed.
abbrev pub HasCause : ℕ → Outside → Outside → ServeError → Type 0
HasCause max before after (Script offset) =
    IfSome before.left (λ bytes. IsBrokenAt max bytes offset) × IsQuiet before after
HasCause max before after Limit = IfSome before.left (IsOverLimit max) × IsQuiet before after
HasCause max before after Read =
    IsRisen before.read_faults after.read_faults × (after.capture_faults ≡ before.capture_faults)
HasCause max before after Sink =
    IsRisen before.capture_faults after.capture_faults × (after.read_faults ≡ before.read_faults)
HasCause max before after NoMemory = IsQuiet before after

-- A run of a valid script with no fault of source or capture ends well unless memory runs out.
abbrev pub Completes : ℕ → Outside → Outside → Result (Unit {0}) ServeError → Type 0
Completes max before after result = IfSome before.left (λ bytes. (events : List Event)
    → IsScript max bytes events → ¬ IsRisen before.read_faults after.read_faults
    → ¬ IsRisen before.capture_faults after.capture_faults → IsOk result ⊎ IsErrOf result NoMemory)
