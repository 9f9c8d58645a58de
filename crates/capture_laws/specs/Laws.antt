-- The capture of a run is a capture file of just the frames that arrived and that its report lists.
use Rattle.std.specs.Prelude.{◌≡◌, ℕ, ◌+◌, ◌*◌, List, [], ◌∷◌, ◌++◌, length, map, Option}
use Rattle.std.specs.List.{flat_map}
use Rattle.capture_explain.specs.Capture.{CaptureEntry}
use Rattle.capture_explain.specs.Rows.{AreRowsOf}
use Rattle.capture_explain.specs.declared.explanation.ExplainRow.{ExplainRow}
use Rattle.host_model.specs.Script.{Event, AreInOrder}
use Rattle.host_model.specs.Settings.{Settings}
use Rattle.host_model.specs.Sizes.{HasSix}
use Rattle.net_host.specs.declared.report.Kind.{Kind}
use Rattle.net_host.specs.declared.report.Kind.TheVariants as kind
use Rattle.net_host.specs.declared.report.Row.{Row}
use Rattle.net_host.specs.declared.run_script.RunError.{RunError}
use Rattle.net_host.specs.declared.run_script.RunError.TheVariants.{Script, Limit, Words, Read, Sink, NoMemory}
use Rattle.net_host.specs.Config.{CanRun}
use Rattle.net_host.specs.Outside.{Outside}
use Rattle.net_host.specs.Rows.{AreRows}
use Rattle.net_host.specs.Run.{Task, task_of, AreAnswered, Finished, Leaves}
use Rattle.phy_layers.specs.PcapBytes.{epoch_micros}
use Rattle.capture_laws.specs.Entries.{run_entries, GrowsByFile, GrowsByFront}

-- Whatever a link makes of a script: where events in the order of their times are answered, the capture grew by a
-- file of their frames.
abbrev pub AnsweredEventsLeaveFiles : Type 0
AnsweredEventsLeaveFiles = (task : Task) (before after : Outside) (report : List Row) (events : List Event)
    → CanRun task.settings → HasSix task.settings.hardware → AreInOrder 0 (task.link events)
    → AreAnswered task before after report events
    → GrowsByFile before.captured after.captured (run_entries (task.link events) report)

-- So it is after each run that ended well.
abbrev pub FinishedRunsLeaveFiles : Type 0
FinishedRunsLeaveFiles = (settings : Settings) (words : List ℕ) (max : ℕ) (before after : Outside) (report : List Row)
    → CanRun settings → HasSix settings.hardware
    → (finished : Finished (task_of settings words max) before after report)
    → GrowsByFile before.captured after.captured (run_entries finished.events report)

-- the events that a run took which stopped, without the one whose words ran out
abbrev pub begun_events : (task : Task) (before after : Outside) (report : List Row) (error : RunError)
    → Leaves task before after report error → List Event
begun_events task before after report (Script offset) leaves = leaves.taken.events
begun_events task before after report Limit leaves = leaves.taken.events
begun_events task before after report Words leaves = leaves.answered_events
begun_events task before after report Read leaves = leaves.taken.events
begun_events task before after report Sink leaves = leaves.taken.events
begun_events task before after report NoMemory leaves = leaves.taken.events

-- how the capture grew by the answer of a run that stopped: where it did inside an event, by a front of a file
abbrev pub GrowsAfter : RunError → Option (List ℕ) → Option (List ℕ) → List CaptureEntry → Type 0
GrowsAfter (Script offset) before after entries = GrowsByFile before after entries
GrowsAfter Limit before after entries = GrowsByFile before after entries
GrowsAfter Words before after entries = GrowsByFile before after entries
GrowsAfter Read before after entries = GrowsByFile before after entries
GrowsAfter Sink before after entries = GrowsByFront before after entries
GrowsAfter NoMemory before after entries = GrowsByFront before after entries

-- And so it is after a run that stopped, with the events that it took.
abbrev pub StoppedRunsLeaveFiles : Type 0
StoppedRunsLeaveFiles = (settings : Settings) (words : List ℕ) (max : ℕ) (before after : Outside) (report : List Row)
    (error : RunError) → CanRun settings → HasSix settings.hardware
    → (leaves : Leaves (task_of settings words max) before after report error)
    → GrowsAfter error before.captured after.captured
    (run_entries (begun_events (task_of settings words max) before after report error leaves) report)

-- when a frame was captured, in microseconds, how many of its bytes, and how many it had
pub record FrameStamp : Type 0 where
  pub at : ℕ
  pub captured : ℕ
  pub told : ℕ

-- of a row of an explanation
abbrev pub stamp_of : ExplainRow → FrameStamp
stamp_of row = record { at = row.secs * 1000000 + row.micros; captured = row.captured; told = row.length }

-- of a whole frame
abbrev pub stamp_with : ℕ → ℕ → FrameStamp
stamp_with at len = record { at = at; captured = len; told = len }

-- of what arrived, by its kind
abbrev pub arrived_stamps : ℕ → Kind → List FrameStamp
arrived_stamps at (kind.Frame len) = stamp_with at len ∷ []
arrived_stamps at kind.Tick = []
arrived_stamps at kind.Reset = []
arrived_stamps at kind.Query = []

-- of the frames of a row of a report: the one that arrived, and then those that were sent
abbrev pub row_stamps : Row → List FrameStamp
row_stamps row = arrived_stamps (epoch_micros row.at) row.kind
    ++ map (λ s. stamp_with (epoch_micros row.at) (length s.frame)) row.sent

-- The rows of a capture's explanation have the times and the lengths of the frames of the report, one for one.
abbrev pub ExplanationsTellReports : Type 0
ExplanationsTellReports = (settings : Settings) (words : List ℕ) (events : List Event) (report : List Row)
    (rows : List ExplainRow) → AreRows settings words events report
    → AreRowsOf (run_entries events report) rows
    → map stamp_of rows ≡ flat_map row_stamps report
