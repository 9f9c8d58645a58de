-- An event adds one row to a report, or none.
use Rattle.std.proofs.Common.{◌≡◌, ◌⊎◌, inl, inr, ⊎_elim, ℤ, List, Result, Ok, Err, OnOk, IfErr, ap}
use Rattle.std.specs.Result.{IsErrOf}
use Rattle.lease_server.specs.Holdings.{Call}
use Rattle.lease_server.specs.Values.{Values}
use Rattle.script_reader.specs.declared.script.ScriptEvent.{ScriptEvent}
use Rattle.script_reader.specs.Reading.{arrival_of}
use Rattle.server_run.specs.declared.serve_error.ServeError.{ServeError}
use Rattle.server_run.specs.declared.serve_error.ServeError.TheVariants.{Sink, NoMemory}
use Rattle.server_run.specs.Rows.{AddsAtMostOne, frame_of, new_row}
use Rattle.server_run.specs.Serving.{Standing, TakesEvent, LeavesRow, LeavesEvent}

row_added : (values : Values) (calls : List Call) (at : ℤ) (event : ScriptEvent) (old new : Standing)
    → LeavesRow values calls at event old new → AddsAtMostOne old.report new.report
row_added values calls at event old new (inl begun) = inr (new_row at (frame_of (arrival_of event)), begun.placed)
row_added values calls at event old new (inr front) = inr (front.places.row, front.places.placed)

event_added : (values : Values) (calls : List Call) (at : ℤ) (event : ScriptEvent) (old new : Standing)
    → LeavesEvent values calls at event old new → AddsAtMostOne old.report new.report
event_added values calls at event old new (inl none) = inl none.same
event_added values calls at event old new (inr row) = row_added values calls at event old new row

pub adds_at_most_one : (values : Values) (calls : List Call) (at : ℤ) (event : ScriptEvent) (old new : Standing) (result : Result (Unit {0}) ServeError)
    → OnOk result (TakesEvent values calls at event old new) → IfErr result (λ e. (e ≡ Sink) ⊎ (e ≡ NoMemory))
    → (IsErrOf result Sink → LeavesRow values calls at event old new) → (IsErrOf result NoMemory → LeavesEvent values calls at event old new)
    → AddsAtMostOne old.report new.report
adds_at_most_one values calls at event old new (Ok done) takes cause sink memory = inr (takes.places.row, takes.places.placed)
adds_at_most_one values calls at event old new (Err error) takes cause sink memory =
    ⊎_elim
    (λ (is_sink : error ≡ Sink). row_added values calls at event old new (sink (ap (λ e. Err e) is_sink)))
    (λ (is_memory : error ≡ NoMemory). event_added values calls at event old new (memory (ap (λ e. Err e) is_memory)))
    cause
