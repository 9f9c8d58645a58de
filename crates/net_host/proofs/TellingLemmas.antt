-- An event adds one row to a report, or none.
use Rattle.std.proofs.Common.{◌≡◌, ◌⊎◌, inl, inr, ⊎_elim, ℤ, Result, Ok, Err, OnOk, IfErr, ap}
use Rattle.std.specs.Result.{IsErrOf}
use Rattle.host_model.specs.declared.words.EventWords.{EventWords}
use Rattle.script_reader.specs.declared.script.ScriptEvent.{ScriptEvent}
use Rattle.script_reader.specs.Reading.{arrival_of}
use Rattle.net_host.specs.declared.run_script.RunError.{RunError}
use Rattle.net_host.specs.declared.run_script.RunError.TheVariants.{Sink, NoMemory}
use Rattle.net_host.specs.Holding.{host_lease}
use Rattle.net_host.specs.Report.{new_row, AddsAtMostOne}
use Rattle.net_host.specs.Rows.{kind_of}
use Rattle.net_host.specs.Taking.{Standing, TakesEvent, LeavesRow, LeavesEvent}

row_added : (at : ℤ) (event : ScriptEvent) (words : EventWords) (old new : Standing) → LeavesRow at event words old new → AddsAtMostOne old.report new.report
row_added at event words old new (inl begun) = inr (new_row at (kind_of (arrival_of event)) begun.note (host_lease old.host), begun.placed)
row_added at event words old new (inr front) = inr (front.places.row, front.places.placed)

event_added : (at : ℤ) (event : ScriptEvent) (words : EventWords) (old new : Standing) → LeavesEvent at event words old new → AddsAtMostOne old.report new.report
event_added at event words old new (inl none) = inl none.same
event_added at event words old new (inr row) = row_added at event words old new row

pub adds_at_most_one : (at : ℤ) (event : ScriptEvent) (words : EventWords) (old new : Standing) (result : Result (Unit {0}) RunError)
    → OnOk result (TakesEvent at event words old new) → IfErr result (λ e. (e ≡ Sink) ⊎ (e ≡ NoMemory))
    → (IsErrOf result Sink → LeavesRow at event words old new) → (IsErrOf result NoMemory → LeavesEvent at event words old new)
    → AddsAtMostOne old.report new.report
adds_at_most_one at event words old new (Ok done) takes cause sink memory = inr (takes.places.row, takes.places.placed)
adds_at_most_one at event words old new (Err error) takes cause sink memory =
    ⊎_elim
    (λ (is_sink : error ≡ Sink). row_added at event words old new (sink (ap (λ e. Err e) is_sink)))
    (λ (is_memory : error ≡ NoMemory). event_added at event words old new (memory (ap (λ e. Err e) is_memory)))
    cause
