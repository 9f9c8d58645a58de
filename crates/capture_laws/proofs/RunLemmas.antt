-- The capture of a run is a file.
use Rattle.std.proofs.Common.{◌≡◌, ℕ, ◌<◌, ◌≤◌, ◌⊎◌, inl, inr, List, [], ◌∷◌, ◌++◌, length, Option, ap, ap₂, sym, subst, ◌∙◌, refl, arith, append_assoc, append-nil}
use Rattle.std.specs.List.{AllByRecursion}
use Rattle.std.specs.Io.KnownBytes.{Appends}
use Rattle.wire_base.specs.Causes.{AppendsFront}
use Rattle.phy_layers.specs.PcapBytes.{snap_len, global_header}
use Rattle.capture_explain.specs.Capture.{CaptureEntry, entry_bytes, AreEntries, entries_bytes, IsCaptureFile}
use Rattle.capture_explain.specs.Laws.{entry_of}
use Rattle.capture_explain.proofs.WrittenLemmas.{are_written}
use Rattle.host_model.specs.Script.{Arrival, Tick, Reset, Frame, Query, Event, IsArrival, AreInOrder, time_limit}
use Rattle.host_model.specs.Settings.{Settings}
use Rattle.host_model.specs.Sizes.{HasSix}
use Rattle.net_host.specs.declared.report.Row.{Row}
use Rattle.net_host.specs.declared.report.Sent.{Sent}
use Rattle.net_host.specs.declared.run_script.RunError.{RunError}
use Rattle.net_host.specs.declared.run_script.RunError.TheVariants.{Script, Limit, Words, Read, Sink, NoMemory}
use Rattle.net_host.specs.Captured.{sent_records, arrived_record, event_records, records, run_capture}
use Rattle.net_host.specs.Config.{CanRun}
use Rattle.net_host.specs.Outside.{Outside}
use Rattle.net_host.specs.Rows.{AreRows}
use Rattle.net_host.specs.Run.{Task, task_of, AreAnswered, AreBegun, Finished, HasRows, IsUnfinished, LacksRow, Leaves}
use Rattle.capture_laws.specs.Entries.{arrived_entries, sent_entries, event_entries, run_entries, GrowsByFile, GrowsByFront}
use Rattle.capture_laws.specs.Laws.{AnsweredEventsLeaveFiles, FinishedRunsLeaveFiles, StoppedRunsLeaveFiles, GrowsAfter, begun_events}
use Rattle.capture_laws.proofs.SizeLemmas.{AreHeld, RowsAreHeld, rows_held}

-- entries of two lists
bytes_of_both : (some others : List CaptureEntry) → entries_bytes (some ++ others) ≡ entries_bytes some ++ entries_bytes others
bytes_of_both [] others = refl
bytes_of_both (entry ∷ some) others =
    ap (λ l. entry_bytes entry ++ l) (bytes_of_both some others) ∙ sym (append_assoc (entry_bytes entry) (entries_bytes some) (entries_bytes others))

both_fit : (some others : List CaptureEntry) → AreEntries some → AreEntries others → AreEntries (some ++ others)
both_fit [] others fit also = also
both_fit (entry ∷ some) others fit also = (fit.0, both_fit some others fit.1 also)

-- what arrived, and what was sent
arrived_are : (at : ℕ) (arrival : Arrival) → IsArrival arrival → arrived_record at arrival ≡ entries_bytes (arrived_entries at arrival)
arrived_are at Tick is = refl
arrived_are at Reset is = refl
arrived_are at (Frame bytes) is = are_written.bytes at bytes (omega (arith, is)) ∙ sym (append-nil (entry_bytes (entry_of at bytes)))
arrived_are at (Query type_ name) is = refl

arrived_fit : (at : ℕ) (arrival : Arrival) → at < time_limit → IsArrival arrival → AreEntries (arrived_entries at arrival)
arrived_fit at Tick early is = tt
arrived_fit at Reset early is = tt
arrived_fit at (Frame bytes) early is = (are_written.fits at bytes early (omega (arith, is)), tt)
arrived_fit at (Query type_ name) early is = tt

sent_are : (at : ℕ) (sent : List Sent) → AreHeld sent → sent_records at sent ≡ entries_bytes (sent_entries at sent)
sent_are at [] held = refl
sent_are at (s ∷ more) held = ap₂ (λ a b. a ++ b) (are_written.bytes at s.frame held.0) (sent_are at more held.1)

sent_fit : (at : ℕ) (sent : List Sent) → at < time_limit → AreHeld sent → AreEntries (sent_entries at sent)
sent_fit at [] early held = tt
sent_fit at (s ∷ more) early held = (are_written.fits at s.frame early held.0, sent_fit at more early held.1)

-- all of it
records_are : (last : ℕ) (events : List Event) (rows : List Row) → AreInOrder last events → RowsAreHeld rows
    → records events rows ≡ entries_bytes (run_entries events rows)
records_are last [] rows order held = refl
records_are last (event ∷ events) [] order held = refl
records_are last (event ∷ events) (row ∷ rows) order held =
    let arrived = arrived_entries event.at event.arrival in
    let sent = sent_entries event.at row.sent in
    ap₂ (λ a b. a ++ b)
    (ap₂ (λ a b. a ++ b) (arrived_are event.at event.arrival order.0.arrival) (sent_are event.at row.sent held.0)
    ∙ sym (bytes_of_both arrived sent))
    (records_are event.at events rows order.1 held.1)
    ∙ sym (bytes_of_both (event_entries event row) (run_entries events rows))

run_fits : (last : ℕ) (events : List Event) (rows : List Row) → AreInOrder last events → RowsAreHeld rows
    → AreEntries (run_entries events rows)
run_fits last [] rows order held = tt
run_fits last (event ∷ events) [] order held = tt
run_fits last (event ∷ events) (row ∷ rows) order held =
    both_fit (event_entries event row) (run_entries events rows)
    (both_fit (arrived_entries event.at event.arrival) (sent_entries event.at row.sent)
    (arrived_fit event.at event.arrival order.0.in_range order.0.arrival) (sent_fit event.at row.sent order.0.in_range held.0))
    (run_fits event.at events rows order.1 held.1)

is_file : (events : List Event) (rows : List Row) → AreInOrder 0 events → RowsAreHeld rows
    → IsCaptureFile (length (run_entries events rows)) (run_capture events rows) (run_entries events rows)
is_file events rows order held = record {
  is_front = record {
    header = global_header 1;
    is_header = are_written.header;
    fit = run_fits 0 events rows order held;
    whole = ap (λ l. global_header 1 ++ l) (records_are 0 events rows order held);
  };
  few = omega arith;
}

-- events that are answered
pub answered_files : AnsweredEventsLeaveFiles
answered_files task before after report events can six order answered = record {
  bytes = run_capture (task.link events) report;
  grew = answered.captured;
  is_file = is_file (task.link events) report order
      (rows_held task.settings six can.writable task.words [] (task.link events) report answered.rows);
}

pub finished_files : FinishedRunsLeaveFiles
finished_files settings words max before after report can six finished =
    answered_files (task_of settings words max) before after report finished.events can six finished.in_order finished.answered

-- the first of events in order
front_in_order : (last : ℕ) (events more : List Event) → AreInOrder last (events ++ more) → AreInOrder last events
front_in_order last [] more order = tt
front_in_order last (event ∷ events) more order = (order.0, front_in_order event.at events more order.1)

-- rows, and one behind them
one_more_held : (rows : List Row) (row : Row) → RowsAreHeld rows → AreHeld row.sent → RowsAreHeld (rows ++ row ∷ [])
one_more_held [] row held also = (also, tt)
one_more_held (first ∷ rows) row held also = (held.0, one_more_held rows row held.1 also)

module _ (settings : Settings) (words : List ℕ) (max : ℕ) (report : List Row) (can : CanRun settings) (six : HasSix settings.hardware) where
  answered_held : (events : List Event) (rows : List Row) → AreRows settings words events rows → RowsAreHeld rows
  answered_held events rows are = rows_held settings six can.writable words [] events rows are

  unfinished_held : (events : List Event) → IsUnfinished (task_of settings words max) report events → RowsAreHeld report
  unfinished_held events is =
      subst RowsAreHeld (sym is.row_last) (one_more_held is.done _ (answered_held is.earlier is.done is.rows) tt)

  rows_held_so_far : (events : List Event) → HasRows (task_of settings words max) report events → RowsAreHeld report
  rows_held_so_far events (inl are) = answered_held events report are
  rows_held_so_far events (inr is) = unfinished_held events is

  rows_held_or_missing : (events : List Event)
      → HasRows (task_of settings words max) report events ⊎ LacksRow (task_of settings words max) report events → RowsAreHeld report
  rows_held_or_missing events (inl has) = rows_held_so_far events has
  rows_held_or_missing events (inr lacks) = answered_held lacks.earlier report lacks.rows

  front_file : (before after : Outside) (events : List Event) → AreInOrder 0 events → RowsAreHeld report
      → AppendsFront before.captured after.captured (run_capture events report)
      → GrowsByFront before.captured after.captured (run_entries events report)
  front_file before after events order held grew = record {
    bytes = run_capture events report;
    grew = grew;
    is_file = is_file events report order held;
  }

-- runs that stopped
pub stopped_files : StoppedRunsLeaveFiles
stopped_files settings words max before after report (Script offset) can six leaves =
    answered_files (task_of settings words max) before after report leaves.taken.events can six leaves.taken.in_order leaves.answered
stopped_files settings words max before after report Limit can six leaves =
    answered_files (task_of settings words max) before after report leaves.taken.events can six leaves.taken.in_order leaves.answered
stopped_files settings words max before after report Words can six leaves =
    answered_files (task_of settings words max) before after report leaves.answered_events can six
    (front_in_order 0 leaves.answered_events (leaves.event ∷ []) (subst (AreInOrder 0) leaves.last leaves.taken.in_order)) leaves.answered
stopped_files settings words max before after report Read can six leaves =
    answered_files (task_of settings words max) before after report leaves.taken.events can six leaves.taken.in_order leaves.answered
stopped_files settings words max before after report Sink can six leaves =
    front_file settings words max report can six before after leaves.taken.events leaves.taken.in_order
    (rows_held_so_far settings words max report can six leaves.taken.events leaves.begun.rows) leaves.begun.captured
stopped_files settings words max before after report NoMemory can six leaves =
    front_file settings words max report can six before after leaves.taken.events leaves.taken.in_order
    (rows_held_or_missing settings words max report can six leaves.taken.events leaves.begun.rows) leaves.begun.captured
