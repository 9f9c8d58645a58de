-- What a run leaves that the capture or want of memory stopped.
use Rattle.std.proofs.Common.{◌≡◌, ℕ, inl, inr, ⊎_elim, ℤ, pos, List, [], ◌∷◌, ◌++◌, ap, sym, subst, ◌∙◌, refl, append-nil}
use Rattle.wire_base.specs.Causes.{AppendsFront}
use Rattle.phy_layers.specs.declared.byte_sink.SinkError.{SinkError}
use Rattle.phy_layers.specs.declared.byte_sink.SinkError.TheVariants as sink
use Rattle.phy_layers.specs.PcapBytes.{epoch_micros, global_header}
use Rattle.phy_layers.proofs.SinkLemmas.{AppendsFront-then, AppendsFront-longer}
use Rattle.host_model.specs.Script.{Event}
use Rattle.lease_server.specs.State.{ServerState}
use Rattle.lease_server.specs.Values.{Values}
use Rattle.net_host.specs.Outside.{Outside}
use Rattle.net_host.specs.Run.{Interrupted}
use Rattle.net_host.proofs.FrontLemmas.{kept_front, no_front}
use Rattle.script_reader.specs.declared.script.ScriptEvent.{ScriptEvent}
use Rattle.script_reader.specs.ReaderState.{ReaderState}
use Rattle.script_reader.specs.Reading.{GivesNext, event_at}
use Rattle.server_run.specs.declared.report.ServeRow.{ServeRow}
use Rattle.server_run.specs.declared.serve_error.ServeError.TheVariants.{NoMemory}
use Rattle.server_run.specs.Captured.{frame_record, row_records, serve_capture}
use Rattle.server_run.specs.Rows.{AreRows, frame_of, new_row}
use Rattle.server_run.specs.ServeError.{of_sink}
use Rattle.server_run.specs.Served.{AreBegun, HasMostRows, HasRows, Leaves}
use Rattle.server_run.specs.Serving.{standing, LeavesEvent, LeavesRow, LeavesNoRow, LeavesNewRow, LeavesFront}
use Rattle.server_run.proofs.ProgressLemmas.{Progress}
use Rattle.server_run.proofs.PushLemmas.{calls_by, capture_push, rows_push}
use Rattle.server_run.proofs.ReadLemmas.{nothing_read, read_next, taken_whole}

-- before the first event: nothing was taken
none_served : (max : ℕ) (before after : Outside) (report : List ServeRow) (Rows : List Event → Type 0) → report ≡ [] → after.left ≡ before.left
    → Rows [] → AppendsFront before.captured after.captured (global_header 1) → Interrupted max before after (AreBegun before after report Rows)
unfolding nothing_read taken_whole
none_served max before after report Rows empty same rows front =
    let Q : List ℕ → Type 0 = λ l. AppendsFront before.captured after.captured l in
    let S : List ServeRow → Type 0 = λ served. AppendsFront before.captured after.captured (serve_capture served) in
    record {
      taken = taken_whole max before after _ (nothing_read max before after same);
      whole = refl;
      begun = record {
        rows = rows;
        captured = subst S (sym empty) (subst Q (sym (append-nil (global_header 1))) front);
      };
    }

no_rows : (values : Values) (report : List ServeRow) → report ≡ [] → HasRows values report []
no_rows values report empty =
    let P : List ServeRow → Type 0 = λ rows. AreRows values [] rows in
    inl (subst P (sym empty) tt)

-- the answer of a refused header
pub header_leaves : (values : Values) (max : ℕ) (before after : Outside) (report : List ServeRow) (error : SinkError) → report ≡ []
    → after.left ≡ before.left → AppendsFront before.captured after.captured (global_header 1)
    → Leaves values max before after report (of_sink error)
header_leaves values max before after report sink.Fault empty same front =
    none_served max before after report (HasRows values report) empty same (no_rows values report empty) front
header_leaves values max before after report sink.NoMemory empty same front =
    none_served max before after report (HasMostRows values report) empty same (inl (no_rows values report empty)) front

-- want of memory before anything
pub nothing_served : (values : Values) (max : ℕ) (before : Outside) (report : List ServeRow) → report ≡ []
    → Leaves values max before before report NoMemory
nothing_served values max before report empty =
    none_served max before before report (HasMostRows values report) empty refl (inl (no_rows values report empty))
    (no_front before.captured (global_header 1))

-- the row of the event is placed
pub row_leaves : (values : Values) (max : ℕ) (before now after : Outside) (old new : ReaderState) (server_old server_new : ServerState)
    (report_old report_new : List ServeRow) (at : ℤ) (event : ScriptEvent)
    → (progress : Progress values max before now old server_old report_old)
    → GivesNext max old new now.left after.left (event_at at event) → at ≡ pos (epoch_micros at)
    → LeavesRow values (calls_by values [] progress.read.events) at event
    (standing server_old now.captured report_old) (standing server_new after.captured report_new)
    → Interrupted max before after (AreBegun before after report_new (HasRows values report_new))
unfolding read_next taken_whole
row_leaves values max before now after old new server_old server_new report_old report_new at event progress gives is_time leaves =
    let e = event_at at event in
    let events = progress.read.events in
    let served = progress.served in
    let next = taken_whole max before after new (read_next max before now after old new e progress.read gives) in
    let R : List ServeRow → Type 0 = λ rows. AreRows values (events ++ e ∷ []) rows in
    let S : List ServeRow → Type 0 = λ rows. AppendsFront before.captured after.captured (serve_capture rows) in
    let T : List ℕ → Type 0 = λ l. AppendsFront before.captured after.captured l in
    ⊎_elim
    (λ (begun : LeavesNewRow at event (standing server_old now.captured report_old) (standing server_new after.captured report_new)).
    let row = new_row at (frame_of e.arrival) in
    record {
      taken = next;
      whole = refl;
      begun = record {
        rows = inr (record {
          earlier = events;
          event = e;
          done = report_old;
          event_last = refl;
          row_last = begun.placed ∙ ap (λ t. report_old ++ new_row t (frame_of e.arrival) ∷ []) is_time;
          rows = served.rows;
        });
        captured = subst S (sym begun.placed) (subst T (sym (capture_push report_old row))
            (AppendsFront-then before.captured now.captured after.captured (serve_capture report_old) (row_records row)
            served.captured (AppendsFront-longer now.captured after.captured (frame_record e.at (frame_of e.arrival)) [] begun.captured)));
      };
    })
    (λ (front : LeavesFront values (calls_by values [] events) at event (standing server_old now.captured report_old) (standing server_new after.captured report_new)).
    let row = front.places.row in
    record {
      taken = next;
      whole = refl;
      begun = record {
        rows = inl (subst R (sym front.places.placed) (rows_push values [] events report_old e row served.rows front.places.row_of));
        captured = subst S (sym front.places.placed) (subst T (sym (capture_push report_old row))
            (AppendsFront-then before.captured now.captured after.captured (serve_capture report_old) (row_records row)
            served.captured front.captured));
      };
    })
    leaves

-- the row of the event is placed or not
pub event_leaves : (values : Values) (max : ℕ) (before now after : Outside) (old new : ReaderState) (server_old server_new : ServerState)
    (report_old report_new : List ServeRow) (at : ℤ) (event : ScriptEvent)
    → (progress : Progress values max before now old server_old report_old)
    → GivesNext max old new now.left after.left (event_at at event) → at ≡ pos (epoch_micros at)
    → LeavesEvent values (calls_by values [] progress.read.events) at event
    (standing server_old now.captured report_old) (standing server_new after.captured report_new)
    → Leaves values max before after report_new NoMemory
unfolding read_next taken_whole
event_leaves values max before now after old new server_old server_new report_old report_new at event progress gives is_time leaves =
    let e = event_at at event in
    let events = progress.read.events in
    let served = progress.served in
    let next = taken_whole max before after new (read_next max before now after old new e progress.read gives) in
    let R : List ServeRow → Type 0 = λ rows. AreRows values events rows in
    let S : List ServeRow → Type 0 = λ rows. AppendsFront before.captured after.captured (serve_capture rows) in
    ⊎_elim
    (λ (none : LeavesNoRow (standing server_old now.captured report_old) (standing server_new after.captured report_new)). record {
      taken = next;
      whole = refl;
      begun = record {
        rows = inr (record { earlier = events; event = e; event_last = refl; rows = subst R (sym none.same) served.rows });
        captured = subst S (sym none.same)
            (kept_front before.captured now.captured after.captured (serve_capture report_old) served.captured none.kept);
      };
    })
    (λ (row : LeavesRow values (calls_by values [] events) at event (standing server_old now.captured report_old) (standing server_new after.captured report_new)).
    let left = row_leaves values max before now after old new server_old server_new report_old report_new at event progress gives is_time row in
    record {
      taken = left.taken;
      whole = left.whole;
      begun = record { rows = inl left.begun.rows; captured = left.begun.captured };
    })
    leaves
