-- What a run leaves, whatever it answers.
use Rattle.std.specs.Prelude.{◌≡◌, ℕ, ◌*◌, ◌<◌, ◌≤◌, ◌⊎◌, List, [], ◌∷◌, ◌++◌, Option, length, pos, IfSome, Result, IsOk}
use Rattle.std.specs.Result.{IsErrOf}
use Rattle.std.specs.Io.KnownBytes.{Appends, Consumes, IsAtEnd}
use Rattle.wire_base.specs.Causes.{AppendsFront, IsRisen}
use Rattle.ether_lax.specs.declared.note.FrameNote.{FrameNote}
use Rattle.net_wire.specs.declared.address.Ipv4Cidr.{Ipv4Cidr}
use Rattle.host_model.specs.Anchor.{anchor_before}
use Rattle.host_model.specs.Chronicle.{history}
use Rattle.host_model.specs.Lease.{leased_under}
use Rattle.host_model.specs.Script.{Event, SpellsAll, AreInOrder, last_time}
use Rattle.host_model.specs.Classes.{IsScript, BeginsWith, IsOverLimit, IsBrokenAt}
use Rattle.host_model.specs.Settings.{Settings}
use Rattle.net_host.specs.declared.report.Row.{Row}
use Rattle.script_reader.specs.declared.script.ReadEventError.{ReadEventError}
use Rattle.script_reader.specs.declared.script.ReadEventError.TheVariants as read
use Rattle.net_host.specs.declared.run_script.RunError.{RunError}
use Rattle.net_host.specs.declared.run_script.RunError.TheVariants.{Script, Limit, Words, Read, Sink, NoMemory}
use Rattle.net_host.specs.Outside.{Outside, IsQuiet}
use Rattle.script_reader.specs.Reading.{EndsWith}
use Rattle.net_host.specs.Report.{new_row}
use Rattle.net_host.specs.Rows.{AreRows, kind_of, IsNoteFor}
use Rattle.net_host.specs.Captured.{run_capture}

-- What a run is told: the values of its host, the words of its events, how many events there may be, and what
-- the host meets of the events that are read.
pub record Task : Type 0 where
  pub settings : Settings
  pub words : List ℕ
  pub max : ℕ
  pub link : List Event → List Event

abbrev pub task_over : (List Event → List Event) → Settings → List ℕ → ℕ → Task
task_over link settings words max = record { settings = settings; words = words; max = max; link = link }

-- where the host meets what is read
abbrev pub task_of : Settings → List ℕ → ℕ → Task
task_of settings words max = task_over (λ events. events) settings words max

-- The events are answered: each had three words, what the host met of it has its row, and the capture grew by
-- its header and the frames of the rows.
pub record AreAnswered (task : Task) (before after : Outside) (report : List Row)
    (events : List Event) : Type 0 where
  pub enough : 3 * length events ≤ length task.words
  pub rows : AreRows task.settings task.words (task.link events) report
  pub captured : Appends before.captured after.captured (run_capture (task.link events) report)

-- A run that ended well. The source was read to its end; where it told its bytes, they were a script of these
-- events, and all of them are answered.
pub record Finished (task : Task) (before after : Outside) (report : List Row) : Type 0 where
  pub events : List Event
  pub script : IfSome before.left (λ bytes. IsScript task.max bytes events)
  pub in_order : AreInOrder 0 events
  pub few : length events ≤ task.max
  pub ended : IsAtEnd after.left
  pub answered : AreAnswered task before after report events

-- What a run of at most `max` events took from the source: events, whole and in order, of together `front`, and a part behind them.
pub record Taken (max : ℕ) (before after : Outside) : Type 0 where
  pub events : List Event
  pub front : List ℕ
  pub part : List ℕ
  pub in_order : AreInOrder 0 events
  pub few : length events ≤ max
  pub spelled : SpellsAll events front
  pub took : Consumes before.left after.left (front ++ part)

-- the part behind the events is what the reader takes that answers so
abbrev pub EndsBy : {max : ℕ} {before after : Outside} → ReadEventError → Taken max before after → Type 0
EndsBy {max} {before} {after} error taken = EndsWith error (last_time 0 taken.events) after.left taken.part

-- A run of at most `max` events that stopped between two events, and ended so: all events that it took are
-- answered.
pub record Stopped (max : ℕ) (before after : Outside) (Answered : List Event → Type 0)
    (Ends : Taken max before after → Type 0) : Type 0 where
  pub taken : Taken max before after
  pub ends : Ends taken
  pub answered : Answered taken.events

-- A run whose words ran out: it took one event more than are answered, and fewer than three words were left
-- for it.
pub record RanOut (task : Task) (before after : Outside) (report : List Row) : Type 0 where
  pub taken : Taken task.max before after
  pub whole : taken.part ≡ []
  pub answered_events : List Event
  pub event : Event
  pub last : taken.events ≡ answered_events ++ event ∷ []
  pub short : length task.words < 3 * length taken.events
  pub answered : AreAnswered task before after report answered_events

-- the address that is held when an event comes behind these
abbrev pub lease_before : Task → List Event → Option Ipv4Cidr
lease_before task events =
    leased_under (anchor_before task.settings (history task.settings task.words events))

-- the last row is that of an event that the host met, in which nothing was sent yet
pub record IsUnfinished (task : Task) (report : List Row) (events : List Event) : Type 0 where
  pub earlier : List Event
  pub event : Event
  pub done : List Row
  pub note : Option FrameNote
  pub noted : IsNoteFor event.arrival note
  pub event_last : events ≡ earlier ++ event ∷ []
  pub row_last : report
      ≡ done ++ new_row (pos event.at) (kind_of event.arrival) note (lease_before task earlier) ∷ []
  pub rows : AreRows task.settings task.words earlier done

-- the last event has no row yet
pub record LacksRow (task : Task) (report : List Row) (events : List Event) : Type 0 where
  pub earlier : List Event
  pub event : Event
  pub event_last : events ≡ earlier ++ event ∷ []
  pub rows : AreRows task.settings task.words earlier report

-- the events have their rows, but the last one may be unfinished
abbrev pub HasRows : Task → List Row → List Event → Type 0
HasRows task report events =
    AreRows task.settings task.words events report ⊎ IsUnfinished task report events

-- Each of the events had three words, what the host met of them has these rows, and the capture is a front of
-- that of the rows.
pub record AreBegun (task : Task) (before after : Outside) (report : List Row) (Rows : List Event → Type 0)
    (events : List Event) : Type 0 where
  pub enough : 3 * length events ≤ length task.words
  pub rows : Rows (task.link events)
  pub captured : AppendsFront before.captured after.captured (run_capture (task.link events) report)

-- A run of at most `max` events that stopped inside an event, or in front of the first one: it took whole events
-- and nothing behind them, and they are answered so far.
pub record Interrupted (max : ℕ) (before after : Outside) (Begun : List Event → Type 0) : Type 0 where
  pub taken : Taken max before after
  pub whole : taken.part ≡ []
  pub begun : Begun taken.events

-- what a run leaves that did not end well, by its answer
abbrev pub Leaves : Task → Outside → Outside → List Row → RunError → Type 0
Leaves task before after report (Script offset) =
    Stopped task.max before after (AreAnswered task before after report)
    (λ taken. (offset ≡ length taken.front) × EndsBy (read.Script offset) taken)
Leaves task before after report Limit =
    Stopped task.max before after (AreAnswered task before after report)
    (λ taken. (length taken.events ≡ task.max) × EndsBy read.Limit taken)
Leaves task before after report Words = RanOut task before after report
Leaves task before after report Read =
    Stopped task.max before after (AreAnswered task before after report)
    (λ taken. (0 < length taken.part → length taken.events < task.max) × EndsBy read.Read taken)
Leaves task before after report Sink =
    Interrupted task.max before after (AreBegun task before after report (HasRows task report))
Leaves task before after report NoMemory =
    Interrupted task.max before after
    (AreBegun task before after report (λ events. HasRows task report events ⊎ LacksRow task report events))

-- the script begins with events within the limit, and there are fewer than three words for each
pub record HasFewWords (task : Task) (before : Outside) : Type 0 where
  pub events : List Event
  pub few : length events ≤ task.max
  pub short : length task.words < 3 * length events
  pub read : IfSome before.left (λ bytes.
      (front : List ℕ) × (more : List ℕ) × BeginsWith events front more bytes)

-- Why a run did not end well, by its answer: the bytes of the script, the words, or a count of faults that
-- rose; want of memory is free. No other count of faults changed.
abbrev pub HasCause : Task → Outside → Outside → RunError → Type 0
HasCause task before after (Script offset) =
    IfSome before.left (λ bytes. IsBrokenAt task.max bytes offset) × IsQuiet before after
HasCause task before after Limit = IfSome before.left (IsOverLimit task.max) × IsQuiet before after
HasCause task before after Words = HasFewWords task before × IsQuiet before after
HasCause task before after Read =
    IsRisen before.read_faults after.read_faults × (after.capture_faults ≡ before.capture_faults)
HasCause task before after Sink =
    IsRisen before.capture_faults after.capture_faults × (after.read_faults ≡ before.read_faults)
HasCause task before after NoMemory = IsQuiet before after

-- A run of a valid script, with three words an event and no fault of source or capture, ends well unless
-- memory runs out.
abbrev pub Completes : Task → Outside → Outside → Result (Unit {0}) RunError → Type 0
Completes task before after result = IfSome before.left (λ bytes. (events : List Event)
    → IsScript task.max bytes events
    → 3 * length events ≤ length task.words → ¬ IsRisen before.read_faults after.read_faults
    → ¬ IsRisen before.capture_faults after.capture_faults → IsOk result ⊎ IsErrOf result NoMemory)
