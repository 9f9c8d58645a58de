-- What a run leaves that the capture or want of memory stopped.
use Rattle.std.proofs.Common.{◌≡◌, ℕ, ◌⊎◌, inl, inr, ⊎_elim, ℤ, pos, List, [], ◌∷◌, ◌++◌, Option, ap, sym, subst, ◌∙◌, refl, arith, append-nil, ◌*◌, ◌+◌, ◌≤◌, length, length-append}
use Rattle.std.specs.Io.KnownBytes.{Consumes}
use Rattle.std.proofs.KnownBytes.{Consumes-nil}
use Rattle.wire_base.specs.Causes.{AppendsFront}
use Rattle.phy_layers.specs.PcapBytes.{epoch_micros, global_header}
use Rattle.phy_layers.specs.declared.byte_sink.SinkError.{SinkError}
use Rattle.phy_layers.specs.declared.byte_sink.SinkError.TheVariants as sink
use Rattle.phy_layers.proofs.SinkLemmas.{AppendsFront-then, AppendsFront-longer}
use Rattle.std.specs.Option.{option_map}
use Rattle.host_model.specs.declared.held.Held.{Held}
use Rattle.host_model.specs.Script.{Event}
use Rattle.host_model.specs.declared.words.EventWords.{EventWords}
use Rattle.host_model.specs.History.{Entry}
use Rattle.host_model.specs.Chronicle.{words_at}
use Rattle.net_host.specs.declared.host.Host.{Host}
use Rattle.net_host.specs.declared.report.Row.{Row}
use Rattle.net_host.specs.declared.run_script.RunError.TheVariants.{NoMemory}
use Rattle.script_reader.specs.declared.script.ScriptEvent.{ScriptEvent}
use Rattle.net_host.specs.Captured.{arrived_record, sent_records, event_records, run_capture}
use Rattle.net_host.specs.Agreement.{AgreesWithHistory}
use Rattle.net_host.specs.Config.{CanRun}
use Rattle.net_host.specs.Holding.{host_lease}
use Rattle.net_host.specs.Outside.{Outside}
use Rattle.script_reader.specs.ReaderState.{ReaderState}
use Rattle.script_reader.specs.Reading.{event_at}
use Rattle.net_host.specs.Report.{new_row}
use Rattle.net_host.specs.Rows.{kind_of, AreRows}
use Rattle.net_host.specs.Run.{Task, Taken, AreBegun, HasRows, LacksRow, Interrupted, Leaves}
use Rattle.net_host.specs.RunError.{of_sink}
use Rattle.net_host.specs.Taking.{standing, LeavesEvent, LeavesRow, LeavesNoRow, LeavesNewRow, LeavesFront}
use Rattle.net_host.specs.Told.{told_behind}
use Rattle.net_host.proofs.LinkLemmas.{MeetsEvent}
use Rattle.net_host.proofs.PushLemmas.{rows_count, rows_push, capture_push, capture_short}
use Rattle.net_host.proofs.PlacingLemmas.{placed}
use Rattle.net_host.proofs.FrontLemmas.{kept_front, no_front}
use Rattle.net_host.proofs.ProgressLemmas.{Progress, met_history, met_next, taken_next, next_words}

-- before the first event: nothing was taken
none_taken : (task : Task) (before after : Outside) → after.left ≡ before.left → Taken task.max before after
none_taken task before after same =
    let P : Option (List ℕ) → Type 0 = λ left. Consumes before.left left [] in
    record { events = []; front = []; part = []; in_order = tt; few = omega arith; spelled = refl; took = subst P (sym same) (Consumes-nil before.left) }

none_answered : (task : Task) (before after : Outside) (report : List Row) (Rows : List Event → Type 0) → task.link [] ≡ [] → after.left ≡ before.left
    → Rows [] → AppendsFront before.captured after.captured (global_header 1) → Interrupted task.max before after (AreBegun task before after report Rows)
unfolding none_taken
none_answered task before after report Rows none same rows front =
    let Q : List ℕ → Type 0 = λ l. AppendsFront before.captured after.captured l in
    let S : List Event → Type 0 = λ events. AppendsFront before.captured after.captured (run_capture events report) in
    record {
      taken = none_taken task before after same;
      whole = refl;
      begun = record {
        enough = omega arith;
        rows = subst Rows (sym none) rows;
        captured = subst S (sym none) (subst Q (sym (append-nil (global_header 1))) front);
      };
    }

no_rows : (task : Task) (report : List Row) → report ≡ [] → HasRows task report []
no_rows task report empty =
    let P : List Row → Type 0 = λ rows. AreRows task.settings task.words [] rows in
    inl (subst P (sym empty) tt)

-- the answer of a refused header
pub header_leaves : (task : Task) (before after : Outside) (report : List Row) (error : SinkError) → task.link [] ≡ [] → report ≡ [] → after.left ≡ before.left
    → AppendsFront before.captured after.captured (global_header 1) → Leaves task before after report (of_sink error)
header_leaves task before after report sink.Fault none empty same front =
    none_answered task before after report (HasRows task report) none same (no_rows task report empty) front
header_leaves task before after report sink.NoMemory none empty same front =
    none_answered task before after report (λ events. HasRows task report events ⊎ LacksRow task report events) none same
    (inl (no_rows task report empty)) front

-- want of memory before anything
pub nothing_run : (task : Task) (before : Outside) (report : List Row) → task.link [] ≡ [] → report ≡ [] → Leaves task before before report NoMemory
nothing_run task before report none empty =
    none_answered task before before report (λ events. HasRows task report events ⊎ LacksRow task report events) none refl
    (inl (no_rows task report empty)) (no_front before.captured (global_header 1))

-- three words an event, with the one that was taken last
enough_with : (task : Task) (events : List Event) (event : Event) (place : ℕ) → length events ≡ place
    → 3 * (place + 1) ≤ length task.words → 3 * length (events ++ event ∷ []) ≤ length task.words
enough_with task events event place counted enough = omega (arith, counted, length-append events (event ∷ []), enough)

-- the row of the event is placed
pub row_leaves : {makes makes_next : (List Event → ℕ) → List Event → List Event} {id : ℕ} (task : Task) (before now after : Outside) (old new : ReaderState) (host_old host_new : Host) (report_old report_new : List Row)
    (at : ℤ) (event : ScriptEvent) (drawn : EventWords)
    → Progress task makes before now old host_old report_old → CanRun task.settings → drawn ≡ words_at task.words old.events
    → 3 * (old.events + 1) ≤ length task.words
    → MeetsEvent task.max old new now.left after.left makes makes_next id at event
    → ((before : List Entry) → AgreesWithHistory task.settings before host_old → told_behind task.settings task.words before [] ≡ id)
    → LeavesRow at event drawn (standing host_old now.captured report_old) (standing host_new after.captured report_new)
    → Interrupted task.max before after (AreBegun task before after report_new (HasRows task report_new))
unfolding taken_next
row_leaves task before now after old new host_old host_new report_old report_new at event drawn progress can are_drawn enough meets tells leaves =
    let e = event_at at event in
    let met = task.link progress.events in
    let here = met_history task progress.events in
    let is_met = met_next task before now after old new host_old report_old at event progress meets (tells here progress.agrees) in
    let answered = progress.answered in
    let counted = rows_count task.settings task.words [] met report_old answered.rows in
    let S : List Row → Type 0 = λ rows. AppendsFront before.captured after.captured (run_capture (met ++ e ∷ []) rows) in
    let T : List ℕ → Type 0 = λ l. AppendsFront before.captured after.captured l in
    let U : List Row → Type 0 = λ rows. AreRows task.settings task.words (met ++ e ∷ []) rows in
    let H : List Event → Type 0 = HasRows task report_new in
    let C : List Event → Type 0 = λ events. AppendsFront before.captured after.captured (run_capture events report_new) in
    ⊎_elim
    (λ (begun : LeavesNewRow at event (standing host_old now.captured report_old) (standing host_new after.captured report_new)).
    let row = new_row at (kind_of e.arrival) begun.note (host_lease host_old) in
    let grown = capture_push met report_old e row counted in
    record {
      taken = taken_next task before now after old new host_old report_old at event progress meets;
      whole = refl;
      begun = record {
        enough = enough_with task progress.events meets.read old.events progress.counted enough;
        rows = subst H (sym is_met) (inr (record {
          earlier = met;
          event = e;
          done = report_old;
          note = begun.note;
          noted = begun.noted;
          event_last = refl;
          row_last = begun.placed ∙ ap (λ t. report_old ++ new_row t (kind_of e.arrival) begun.note (host_lease host_old) ∷ []) meets.time
              ∙ ap (λ l. report_old ++ new_row (pos (epoch_micros at)) (kind_of e.arrival) begun.note l ∷ []) (ap (option_map (λ (h : Held). h.address)) progress.agrees.held);
          rows = answered.rows;
        }));
        captured = subst C (sym is_met) (subst S (sym begun.placed) (subst T (sym grown)
            (AppendsFront-then before.captured now.captured after.captured (run_capture met report_old) (event_records e row)
            answered.captured (AppendsFront-longer now.captured after.captured (arrived_record e.at e.arrival) (sent_records e.at []) begun.captured))));
      };
    })
    (λ (front : LeavesFront at event drawn (standing host_old now.captured report_old) (standing host_new after.captured report_new)).
    let grown = capture_push met report_old e front.places.row counted in
    let is_place = next_words task met old.events drawn (progress.as_many ∙ progress.counted) are_drawn in
    let done = placed task.settings task.words here at event drawn
    (standing host_old now.captured report_old) (standing host_new after.captured report_new) front.places meets.time can progress.agrees is_place in
    record {
      taken = taken_next task before now after old new host_old report_old at event progress meets;
      whole = refl;
      begun = record {
        enough = enough_with task progress.events meets.read old.events progress.counted enough;
        rows = subst H (sym is_met) (inl (subst U (sym front.places.placed)
            (rows_push task.settings task.words [] met report_old e front.places.row answered.rows done.row_of)));
        captured = subst C (sym is_met) (subst S (sym front.places.placed) (subst T (sym grown)
            (AppendsFront-then before.captured now.captured after.captured (run_capture met report_old) (event_records e front.places.row)
            answered.captured front.captured)));
      };
    })
    leaves

-- the row of the event is placed or not
pub event_leaves : {makes makes_next : (List Event → ℕ) → List Event → List Event} {id : ℕ} (task : Task) (before now after : Outside) (old new : ReaderState) (host_old host_new : Host) (report_old report_new : List Row)
    (at : ℤ) (event : ScriptEvent) (drawn : EventWords)
    → Progress task makes before now old host_old report_old → CanRun task.settings → drawn ≡ words_at task.words old.events
    → 3 * (old.events + 1) ≤ length task.words
    → MeetsEvent task.max old new now.left after.left makes makes_next id at event
    → ((before : List Entry) → AgreesWithHistory task.settings before host_old → told_behind task.settings task.words before [] ≡ id)
    → LeavesEvent at event drawn (standing host_old now.captured report_old) (standing host_new after.captured report_new)
    → Leaves task before after report_new NoMemory
unfolding taken_next
event_leaves task before now after old new host_old host_new report_old report_new at event drawn progress can are_drawn enough meets tells leaves =
    let e = event_at at event in
    let met = task.link progress.events in
    let here = met_history task progress.events in
    let is_met = met_next task before now after old new host_old report_old at event progress meets (tells here progress.agrees) in
    let answered = progress.answered in
    let counted = rows_count task.settings task.words [] met report_old answered.rows in
    let R : List Row → Type 0 = λ rows. AreRows task.settings task.words met rows in
    let S : List Row → Type 0 = λ rows. AppendsFront before.captured after.captured (run_capture (met ++ e ∷ []) rows) in
    let T : List ℕ → Type 0 = λ l. AppendsFront before.captured after.captured l in
    let H : List Event → Type 0 = λ events. HasRows task report_new events ⊎ LacksRow task report_new events in
    let C : List Event → Type 0 = λ events. AppendsFront before.captured after.captured (run_capture events report_new) in
    ⊎_elim
    (λ (none : LeavesNoRow (standing host_old now.captured report_old) (standing host_new after.captured report_new)). record {
      taken = taken_next task before now after old new host_old report_old at event progress meets;
      whole = refl;
      begun = record {
        enough = enough_with task progress.events meets.read old.events progress.counted enough;
        rows = subst H (sym is_met) (inr (record { earlier = met; event = e; event_last = refl; rows = subst R (sym none.same) answered.rows }));
        captured = subst C (sym is_met) (subst S (sym none.same) (subst T (sym (capture_short met report_old e counted))
            (kept_front before.captured now.captured after.captured (run_capture met report_old) answered.captured none.kept)));
      };
    })
    (λ (row : LeavesRow at event drawn (standing host_old now.captured report_old) (standing host_new after.captured report_new)).
    let left = row_leaves task before now after old new host_old host_new report_old report_new at event drawn progress can are_drawn enough meets tells row in
    record {
      taken = left.taken;
      whole = left.whole;
      begun = record { enough = left.begun.enough; rows = inl left.begun.rows; captured = left.begun.captured };
    })
    leaves
