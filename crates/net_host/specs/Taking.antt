-- What one event leaves in the host, the report and the capture.
use Rattle.std.specs.Prelude.{◌≡◌, ℕ, ◌⊎◌, ℤ, List, [], ◌∷◌, ◌++◌, Option}
use Rattle.std.specs.Io.KnownBytes.{Appends, Keeps}
use Rattle.wire_base.specs.Causes.{AppendsFront}
use Rattle.ether_lax.specs.declared.note.FrameNote.{FrameNote}
use Rattle.phy_layers.specs.PcapBytes.{epoch_micros}
use Rattle.host_model.specs.declared.words.EventWords.{EventWords}
use Rattle.net_host.specs.declared.host.Handled.{Handled}
use Rattle.net_host.specs.declared.host.Host.{Host}
use Rattle.net_host.specs.declared.report.Row.{Row}
use Rattle.script_reader.specs.declared.script.ScriptEvent.{ScriptEvent}
use Rattle.net_host.specs.Captured.{arrived_record, event_records}
use Rattle.net_host.specs.Handling.{HandlesEvent}
use Rattle.net_host.specs.Holding.{host_lease}
use Rattle.script_reader.specs.Reading.{arrival_of, event_at}
use Rattle.net_host.specs.Report.{new_row}
use Rattle.net_host.specs.Rows.{kind_of, IsNoteFor}

-- the host, the bytes of the capture where they are told, and the report
pub record Standing : Type 0 where
  pub host : Host
  pub captured : Option (List ℕ)
  pub report : List Row

abbrev pub standing : Host → Option (List ℕ) → List Row → Standing
standing host captured report = record { host = host; captured = captured; report = report }

-- what a row says that the host gave
abbrev pub handled_in : Row → Handled
handled_in row = record { lease = row.lease; sent = row.sent; lines = row.lines }

-- the report has one row more: that of the event, with the frames that the host sent
pub record PlacesRow (at : ℤ) (event : ScriptEvent) (words : EventWords) (old new : Standing) : Type 0 where
  pub row : Row
  pub placed : new.report ≡ old.report ++ row ∷ []
  pub time : row.at ≡ at
  pub kind : row.kind ≡ kind_of (arrival_of event)
  pub note : IsNoteFor (arrival_of event) row.note
  pub handles : HandlesEvent at event words old.host new.host (handled_in row)

-- and the capture grew by the records of the event
pub record TakesEvent (at : ℤ) (event : ScriptEvent) (words : EventWords) (old new : Standing) : Type 0 where
  pub places : PlacesRow at event words old new
  pub captured : Appends old.captured new.captured (event_records (event_at at event) places.row)

-- the row is not placed
pub record LeavesNoRow (old new : Standing) : Type 0 where
  pub same : new.report ≡ old.report
  pub kept : Keeps old.captured new.captured

-- The row is placed with the address that the host held, and nothing was sent yet. The capture grew by a
-- front of the record of the frame that arrived, if one did.
pub record LeavesNewRow (at : ℤ) (event : ScriptEvent) (old new : Standing) : Type 0 where
  pub note : Option FrameNote
  pub noted : IsNoteFor (arrival_of event) note
  pub placed : new.report ≡ old.report ++ new_row at (kind_of (arrival_of event)) note (host_lease old.host) ∷ []
  pub captured : AppendsFront old.captured new.captured (arrived_record (epoch_micros at) (arrival_of event))

-- the row is that of the event, and the capture grew by a front of its records
pub record LeavesFront (at : ℤ) (event : ScriptEvent) (words : EventWords) (old new : Standing) : Type 0 where
  pub places : PlacesRow at event words old new
  pub captured : AppendsFront old.captured new.captured (event_records (event_at at event) places.row)

-- what an event leaves that was not taken in to its end, once its row is placed
abbrev pub LeavesRow : ℤ → ScriptEvent → EventWords → Standing → Standing → Type 0
LeavesRow at event words old new = LeavesNewRow at event old new ⊎ LeavesFront at event words old new

-- and before
abbrev pub LeavesEvent : ℤ → ScriptEvent → EventWords → Standing → Standing → Type 0
LeavesEvent at event words old new = LeavesNoRow old new ⊎ LeavesRow at event words old new
