-- The events of a run, one after another.
use Rattle.std.proofs.Common.{◌≡◌, ℕ, ◌≤◌, ℤ, List, [], ◌∷◌, ◌++◌, ap, sym, subst, arith, append-nil}
use Rattle.std.specs.Io.KnownBytes.{Appends}
use Rattle.phy_layers.specs.PcapBytes.{epoch_micros, global_header}
use Rattle.phy_layers.proofs.SinkLemmas.{Appends-then}
use Rattle.lease_server.specs.Calls.{Agrees}
use Rattle.lease_server.specs.Holdings.{Call}
use Rattle.lease_server.specs.State.{ServerState}
use Rattle.lease_server.specs.Values.{Values}
use Rattle.net_host.specs.Outside.{Outside}
use Rattle.script_reader.specs.declared.script.ScriptEvent.{ScriptEvent}
use Rattle.script_reader.specs.ReaderState.{ReaderState, at_start}
use Rattle.script_reader.specs.Reading.{GivesNext, event_at}
use Rattle.server_run.specs.declared.report.ServeRow.{ServeRow}
use Rattle.server_run.specs.Captured.{row_records, serve_capture}
use Rattle.server_run.specs.Rows.{AreRows}
use Rattle.server_run.specs.Served.{AreServed}
use Rattle.server_run.specs.Serving.{standing, TakesEvent}
use Rattle.server_run.proofs.PushLemmas.{calls_by, calls_push, capture_push, rows_push}
use Rattle.server_run.proofs.ReadLemmas.{ReadSoFar, nothing_read, read_next}

-- What stands before an event of a run is read: the events so far are served, and the server is as their calls say.
pub record Progress (values : Values) (max : ℕ) (before now : Outside) (reader : ReaderState) (server : ServerState)
    (report : List ServeRow) : Type 0 where
  pub read : ReadSoFar max before now reader
  pub agrees : Agrees values (calls_by values [] read.events) server
  pub past : server.last ≤ reader.last
  pub served : AreServed values before now report read.events

-- before the first event
pub starts : (values : Values) (max : ℕ) (before after : Outside) (server : ServerState) (report : List ServeRow)
    → report ≡ [] → Agrees values [] server → server.last ≡ 0
    → Appends before.captured after.captured (global_header 1) → after.left ≡ before.left
    → Progress values max before after at_start server report
unfolding nothing_read
starts values max before after server report empty agrees first header same =
    let P : List ServeRow → Type 0 = λ rows. AreRows values [] rows in
    let Q : List ℕ → Type 0 = λ l. Appends before.captured after.captured l in
    let R : List ServeRow → Type 0 = λ rows. Appends before.captured after.captured (serve_capture rows) in
    record {
      read = nothing_read max before after same;
      agrees = agrees;
      past = omega (arith, first);
      served = record {
        rows = subst P (sym empty) tt;
        captured = subst R (sym empty) (subst Q (sym (append-nil (global_header 1))) header);
      };
    }

-- the event that was read next is served
pub goes_on : (values : Values) (max : ℕ) (before now after : Outside) (old new : ReaderState) (server_old server_new : ServerState)
    (report_old report_new : List ServeRow) (at : ℤ) (event : ScriptEvent)
    → (progress : Progress values max before now old server_old report_old)
    → GivesNext max old new now.left after.left (event_at at event)
    → TakesEvent values (calls_by values [] progress.read.events) at event
    (standing server_old now.captured report_old) (standing server_new after.captured report_new)
    → server_new.last ≤ epoch_micros at → Progress values max before after new server_new report_new
unfolding read_next
goes_on values max before now after old new server_old server_new report_old report_new at event progress gives takes last =
    let e = event_at at event in
    let events = progress.read.events in
    let row = takes.places.row in
    let A : List Call → Type 0 = λ calls. Agrees values calls server_new in
    let P : List ServeRow → Type 0 = λ rows. AreRows values (events ++ e ∷ []) rows in
    let Q : List ℕ → Type 0 = λ l. Appends before.captured after.captured l in
    let R : List ServeRow → Type 0 = λ rows. Appends before.captured after.captured (serve_capture rows) in
    record {
      read = read_next max before now after old new e progress.read gives;
      agrees = subst A (sym (calls_push values [] events e)) takes.places.agrees;
      past = omega (arith, last, ap (λ (s : ReaderState). s.last) gives.moved);
      served = record {
        rows = subst P (sym takes.places.placed) (rows_push values [] events report_old e row progress.served.rows takes.places.row_of);
        captured = subst R (sym takes.places.placed) (subst Q (sym (capture_push report_old row))
            (Appends-then before.captured now.captured after.captured (serve_capture report_old) (row_records row)
            progress.served.captured takes.captured));
      };
    }
