-- The rows of an explanation have the times and lengths of a report's frames.
use Rattle.std.proofs.Common.{◌≡◌, ℕ, ◌+◌, ◌*◌, ◌/◌, ◌%◌, List, [], ◌∷◌, ◌++◌, length, map, ap, ap₂, sym, subst, ◌∙◌, refl, arith, pos}
use Rattle.std.specs.List.{flat_map}
use Rattle.phy_layers.specs.PcapBytes.{epoch_micros}
use Rattle.capture_explain.specs.Capture.{CaptureEntry}
use Rattle.capture_explain.specs.Laws.{entry_of}
use Rattle.capture_explain.specs.Rows.{IsRowOf, AreRowsOf}
use Rattle.capture_explain.specs.declared.explanation.ExplainRow.{ExplainRow}
use Rattle.host_model.specs.Chronicle.{entry_at}
use Rattle.host_model.specs.History.{Entry}
use Rattle.host_model.specs.Script.{Arrival, Tick, Reset, Frame, Query, Event}
use Rattle.host_model.specs.Settings.{Settings}
use Rattle.net_host.specs.declared.report.Kind.{Kind}
use Rattle.net_host.specs.declared.report.Row.{Row}
use Rattle.net_host.specs.declared.report.Sent.{Sent}
use Rattle.net_host.specs.Rows.{AreRowsFrom, kind_of}
use Rattle.capture_laws.specs.Entries.{arrived_entries, sent_entries, event_entries, run_entries}
use Rattle.capture_laws.specs.Laws.{FrameStamp, stamp_of, stamp_with, arrived_stamps, row_stamps, ExplanationsTellReports}

-- the stamp of an entry
entry_stamp : CaptureEntry → FrameStamp
entry_stamp entry = record { at = entry.secs * 1000000 + entry.micros; captured = length entry.frame; told = entry.told }

rows_stamped : (entries : List CaptureEntry) (rows : List ExplainRow) → AreRowsOf entries rows
    → map stamp_of rows ≡ map entry_stamp entries
unfolding entry_stamp
rows_stamped [] rows are = ap (map stamp_of) are
rows_stamped (entry ∷ entries) [] are = absurd are
rows_stamped (entry ∷ entries) (row ∷ rows) are =
    let at : row.secs * 1000000 + row.micros ≡ entry.secs * 1000000 + entry.micros =
    ap₂ (λ s u. s * 1000000 + u) are.0.secs_are are.0.micros_are in
    let first : stamp_of row ≡ entry_stamp entry =
    ap (λ (n : ℕ). record (stamp_of row) { at = n }) at
    ∙ ap (λ (n : ℕ). record (entry_stamp entry) { captured = n; told = row.length }) are.0.captured_is
    ∙ ap (λ (n : ℕ). record (entry_stamp entry) { told = n }) are.0.length_is in
    ap₂ (λ (s : FrameStamp) (l : List FrameStamp). s ∷ l) first (rows_stamped entries rows are.1)

stamped : (at : ℕ) (frame : List ℕ) → entry_stamp (entry_of at frame) ≡ stamp_with at (length frame)
unfolding entry_stamp
stamped at frame =
    let same : at / 1000000 * 1000000 + at % 1000000 ≡ at = omega arith in
    ap (λ (n : ℕ). record (stamp_with at (length frame)) { at = n }) same

arrived_stamped : (at : ℕ) (arrival : Arrival) → map entry_stamp (arrived_entries at arrival) ≡ arrived_stamps at (kind_of arrival)
arrived_stamped at Tick = refl
arrived_stamped at Reset = refl
arrived_stamped at (Frame bytes) = ap (λ (s : FrameStamp). s ∷ []) (stamped at bytes)
arrived_stamped at (Query type_ name) = refl

sent_stamped : (at : ℕ) (sent : List Sent) → map entry_stamp (sent_entries at sent) ≡ map (λ s. stamp_with at (length s.frame)) sent
sent_stamped at [] = refl
sent_stamped at (s ∷ more) = ap₂ (λ (s : FrameStamp) (l : List FrameStamp). s ∷ l) (stamped at s.frame) (sent_stamped at more)

map_both : {X Y : Type 0} (f : X → Y) (some others : List X) → map f (some ++ others) ≡ map f some ++ map f others
map_both f [] others = refl
map_both f (x ∷ some) others = ap (λ l. f x ∷ l) (map_both f some others)

event_stamped : (event : Event) (row : Row) → row.at ≡ pos event.at → row.kind ≡ kind_of event.arrival
    → map entry_stamp (event_entries event row) ≡ row_stamps row
event_stamped event row time kind =
    let at : event.at ≡ epoch_micros row.at = sym (ap epoch_micros time) in
    map_both entry_stamp (arrived_entries event.at event.arrival) (sent_entries event.at row.sent)
    ∙ ap₂ (λ (a b : List FrameStamp). a ++ b)
    (arrived_stamped event.at event.arrival ∙ ap (arrived_stamps event.at) (sym kind)) (sent_stamped event.at row.sent)
    ∙ ap (λ (n : ℕ). arrived_stamps n row.kind ++ map (λ (s : Sent). stamp_with n (length s.frame)) row.sent) at

run_stamped : (settings : Settings) (words : List ℕ) (before : List Entry) (events : List Event) (report : List Row)
    → AreRowsFrom settings words before events report → map entry_stamp (run_entries events report) ≡ flat_map row_stamps report
run_stamped settings words before [] [] are = refl
run_stamped settings words before [] (row ∷ rows) are = absurd are
run_stamped settings words before (event ∷ events) [] are = absurd are
run_stamped settings words before (event ∷ events) (row ∷ rows) are =
    map_both entry_stamp (event_entries event row) (run_entries events rows)
    ∙ ap₂ (λ (a b : List FrameStamp). a ++ b) (event_stamped event row are.0.time are.0.kind)
    (run_stamped settings words (entry_at settings words before event ∷ before) events rows are.1)

pub told : ExplanationsTellReports
told settings words events report rows answered are =
    rows_stamped (run_entries events report) rows are ∙ run_stamped settings words [] events report answered
