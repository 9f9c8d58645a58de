-- One event more: the order of events, their bytes, their rows and their records.
use Rattle.std.proofs.Common.{◌≡◌, ℕ, List, [], ◌∷◌, ◌++◌, length, ap, sym, ◌∙◌, refl, arith, append_assoc, append-nil}
use Rattle.phy_layers.specs.PcapBytes.{global_header}
use Rattle.host_model.specs.Script.{Event, Spells, SpellsAll, IsNext, AreInOrder, last_time}
use Rattle.host_model.specs.Settings.{Settings}
use Rattle.host_model.specs.History.{Entry}
use Rattle.host_model.specs.Chronicle.{entry_at, history_from}
use Rattle.net_host.specs.declared.report.Row.{Row}
use Rattle.net_host.specs.Captured.{event_records, records, run_capture}
use Rattle.net_host.specs.Rows.{IsRowOf, AreRowsFrom}

-- one event more
pub in_order_push : (last : ℕ) (events : List Event) (event : Event) → AreInOrder last events → IsNext (last_time last events) event
    → AreInOrder last (events ++ event ∷ [])
in_order_push last [] event in_order next = (next, tt)
in_order_push last (first ∷ events) event in_order next = (in_order.0, in_order_push first.at events event in_order.1 next)

pub last_time_push : (last : ℕ) (events : List Event) (event : Event) → last_time last (events ++ event ∷ []) ≡ event.at
last_time_push last [] event = refl
last_time_push last (first ∷ events) event = last_time_push first.at events event

pub spells_push : (events : List Event) (event : Event) (bytes front : List ℕ) → SpellsAll events bytes → Spells event front
    → SpellsAll (events ++ event ∷ []) (bytes ++ front)
spells_push [] event bytes front none spelled = (front, [], ap (λ l. l ++ front) none ∙ sym (append-nil front), spelled, refl)
spells_push (first ∷ events) event bytes front spell spelled = (
  spell.0,
  spell.1 ++ front,
  ap (λ l. l ++ front) spell.2 ∙ append_assoc spell.0 spell.1 front,
  spell.3,
  spells_push events event spell.1 front spell.4 spelled,
)

pub rows_count : (settings : Settings) (words : List ℕ) (before : List Entry) (events : List Event) (rows : List Row)
    → AreRowsFrom settings words before events rows → length rows ≡ length events
rows_count settings words before [] [] are = refl
rows_count settings words before [] (row ∷ rows) are = absurd are
rows_count settings words before (event ∷ events) [] are = absurd are
rows_count settings words before (event ∷ events) (row ∷ rows) are =
    let counted = rows_count settings words (entry_at settings words before event ∷ before) events rows are.1 in
    omega (arith, counted)

pub rows_push : (settings : Settings) (words : List ℕ) (before : List Entry) (events : List Event) (rows : List Row) (event : Event) (row : Row)
    → AreRowsFrom settings words before events rows
    → IsRowOf settings (history_from settings words before events) (entry_at settings words (history_from settings words before events) event) row
    → AreRowsFrom settings words before (events ++ event ∷ []) (rows ++ row ∷ [])
rows_push settings words before [] [] event row are is_row = (is_row, tt)
rows_push settings words before [] (first ∷ rows) event row are is_row = absurd are
rows_push settings words before (first ∷ events) [] event row are is_row = absurd are
rows_push settings words before (first ∷ events) (first_row ∷ rows) event row are is_row =
    (are.0, rows_push settings words (entry_at settings words before first ∷ before) events rows event row are.1 is_row)

pub records_push : (events : List Event) (rows : List Row) (event : Event) (row : Row) → length rows ≡ length events
    → records (events ++ event ∷ []) (rows ++ row ∷ []) ≡ records events rows ++ event_records event row
records_push [] [] event row counted = append-nil (event_records event row)
records_push [] (first ∷ rows) event row counted = absurd (omega (arith, counted))
records_push (first ∷ events) [] event row counted = absurd (omega (arith, counted))
records_push (first ∷ events) (first_row ∷ rows) event row counted =
    ap (λ l. event_records first first_row ++ l) (records_push events rows event row (omega (arith, counted)))
    ∙ sym (append_assoc (event_records first first_row) (records events rows) (event_records event row))

pub capture_push : (events : List Event) (rows : List Row) (event : Event) (row : Row) → length rows ≡ length events
    → run_capture (events ++ event ∷ []) (rows ++ row ∷ []) ≡ run_capture events rows ++ event_records event row
capture_push events rows event row counted =
    ap (λ l. global_header 1 ++ l) (records_push events rows event row counted)
    ∙ sym (append_assoc (global_header 1) (records events rows) (event_records event row))

-- an event without a row adds nothing
records_short : (events : List Event) (rows : List Row) (event : Event) → length rows ≡ length events → records (events ++ event ∷ []) rows ≡ records events rows
records_short [] [] event counted = refl
records_short [] (first ∷ rows) event counted = absurd (omega (arith, counted))
records_short (first ∷ events) [] event counted = absurd (omega (arith, counted))
records_short (first ∷ events) (row ∷ rows) event counted =
    ap (λ l. event_records first row ++ l) (records_short events rows event (omega (arith, counted)))

pub capture_short : (events : List Event) (rows : List Row) (event : Event) → length rows ≡ length events
    → run_capture (events ++ event ∷ []) rows ≡ run_capture events rows
capture_short events rows event counted = ap (λ l. global_header 1 ++ l) (records_short events rows event counted)
