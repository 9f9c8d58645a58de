-- The entries of a run's capture: one for each frame that arrived and for each that was sent, at the time of its event.
use Rattle.std.specs.Prelude.{ℕ, List, [], ◌∷◌, ◌++◌, length, map, Option}
use Rattle.std.specs.Io.KnownBytes.{Appends}
use Rattle.wire_base.specs.Causes.{AppendsFront}
use Rattle.capture_explain.specs.Capture.{CaptureEntry, IsCaptureFile}
use Rattle.capture_explain.specs.Laws.{entry_of}
use Rattle.host_model.specs.Script.{Arrival, Tick, Reset, Frame, Query, Event}
use Rattle.net_host.specs.declared.report.Row.{Row}
use Rattle.net_host.specs.declared.report.Sent.{Sent}

-- that of the frame that arrived at a time, where one did
abbrev pub arrived_entries : ℕ → Arrival → List CaptureEntry
arrived_entries at Tick = []
arrived_entries at Reset = []
arrived_entries at (Frame bytes) = entry_of at bytes ∷ []
arrived_entries at (Query type_ name) = []

-- those of the frames that were sent at a time
abbrev pub sent_entries : ℕ → List Sent → List CaptureEntry
sent_entries at sent = map (λ s. entry_of at s.frame) sent

-- those of an event: the frame that arrived, and then those that its row lists
abbrev pub event_entries : Event → Row → List CaptureEntry
event_entries event row = arrived_entries event.at event.arrival ++ sent_entries event.at row.sent

abbrev pub run_entries : List Event → List Row → List CaptureEntry
run_entries [] rows = []
run_entries (event ∷ events) [] = []
run_entries (event ∷ events) (row ∷ rows) = event_entries event row ++ run_entries events rows

-- known bytes grow by a capture file of just these entries
pub record GrowsByFile (before after : Option (List ℕ)) (entries : List CaptureEntry) : Type 0 where
  pub bytes : List ℕ
  pub grew : Appends before after bytes
  pub is_file : IsCaptureFile (length entries) bytes entries

-- and by a front of one
pub record GrowsByFront (before after : Option (List ℕ)) (entries : List CaptureEntry) : Type 0 where
  pub bytes : List ℕ
  pub grew : AppendsFront before after bytes
  pub is_file : IsCaptureFile (length entries) bytes entries
