-- One event more: the calls, the rows, and the capture.
use Rattle.std.proofs.Common.{◌≡◌, List, [], ◌∷◌, ◌++◌, ap, sym, ◌∙◌, refl, append_assoc, append-nil}
use Rattle.std.specs.List.{flat_map}
use Rattle.std.proofs.lemmas.Grind.{flat_map-append}
use Rattle.phy_layers.specs.PcapBytes.{global_header}
use Rattle.host_model.specs.Script.{Event}
use Rattle.lease_server.specs.Holdings.{Call}
use Rattle.lease_server.specs.Values.{Values}
use Rattle.server_run.specs.declared.report.ServeRow.{ServeRow}
use Rattle.server_run.specs.Captured.{row_records, serve_capture}
use Rattle.server_run.specs.Rows.{AreRowsFrom, calls_behind, IsRowOf}

-- the calls behind events
abbrev pub calls_by : Values → List Call → List Event → List Call
calls_by values calls [] = calls
calls_by values calls (event ∷ events) = calls_by values (calls_behind values calls event) events

pub calls_push : (values : Values) (calls : List Call) (events : List Event) (event : Event)
    → calls_by values calls (events ++ event ∷ []) ≡ calls_behind values (calls_by values calls events) event
calls_push values calls [] event = refl
calls_push values calls (first ∷ events) event = calls_push values (calls_behind values calls first) events event

pub rows_push : (values : Values) (calls : List Call) (events : List Event) (rows : List ServeRow) (event : Event) (row : ServeRow)
    → AreRowsFrom values calls events rows → IsRowOf values (calls_by values calls events) event row
    → AreRowsFrom values calls (events ++ event ∷ []) (rows ++ row ∷ [])
rows_push values calls [] [] event row are is_row = (is_row, tt)
rows_push values calls [] (first ∷ rows) event row are is_row = absurd are
rows_push values calls (first ∷ events) [] event row are is_row = absurd are
rows_push values calls (first ∷ events) (first_row ∷ rows) event row are is_row =
    (are.0, rows_push values (calls_behind values calls first) events rows event row are.1 is_row)

pub capture_push : (rows : List ServeRow) (row : ServeRow) → serve_capture (rows ++ row ∷ []) ≡ serve_capture rows ++ row_records row
capture_push rows row =
    ap (λ l. global_header 1 ++ l) (flat_map-append row_records rows (row ∷ [])
    ∙ ap (λ l. flat_map row_records rows ++ l) (append-nil (row_records row)))
    ∙ sym (append_assoc (global_header 1) (flat_map row_records rows) (row_records row))
