-- The events of a run, one after another.
use Rattle.std.proofs.Common.{◌≡◌, ℕ, ◌+◌, ◌*◌, ◌<◌, ◌≤◌, ℤ, List, [], ◌∷◌, ◌++◌, length, Option, ap, sym, subst, ◌∙◌, refl, arith, length-append, append-nil, zero-add}
use Rattle.std.specs.Io.KnownBytes.{Appends, Consumes}
use Rattle.std.proofs.KnownBytes.{Consumes-nil, Consumes-trans}
use Rattle.phy_layers.specs.PcapBytes.{global_header}
use Rattle.phy_layers.proofs.SinkLemmas.{Appends-then}
use Rattle.host_model.specs.Script.{Event, SpellsAll, IsNext, AreInOrder, last_time}
use Rattle.host_model.specs.History.{Entry}
use Rattle.host_model.specs.declared.words.EventWords.{EventWords}
use Rattle.host_model.specs.Chronicle.{history, words_at}
use Rattle.host_model.proofs.ChronicleLemmas.{history_from-push, length-history_from}
use Rattle.net_host.specs.declared.host.Host.{Host}
use Rattle.net_host.specs.declared.report.Row.{Row}
use Rattle.script_reader.specs.declared.script.ScriptEvent.{ScriptEvent}
use Rattle.net_host.specs.Captured.{event_records, run_capture}
use Rattle.net_host.specs.Agreement.{AgreesWithHistory}
use Rattle.net_host.specs.Config.{CanRun}
use Rattle.net_host.specs.Outside.{Outside}
use Rattle.script_reader.specs.ReaderState.{ReaderState, at_start}
use Rattle.script_reader.specs.Reading.{event_at}
use Rattle.net_host.specs.Rows.{AreRows}
use Rattle.net_host.specs.Run.{Task, AreAnswered, Taken, RanOut}
use Rattle.net_host.specs.Taking.{standing, TakesEvent}
use Rattle.net_host.specs.Told.{told_behind, told_by}
use Rattle.net_host.proofs.LinkLemmas.{MeetsEvent, link_goes_on, link_push}
use Rattle.net_host.proofs.PushLemmas.{in_order_push, last_time_push, spells_push, rows_count, rows_push, capture_push}
use Rattle.net_host.proofs.PlacingLemmas.{placed}

-- the entries of what the host met of some events
abbrev pub met_history : Task → List Event → List Entry
met_history task events = history task.settings task.words (task.link events)

-- What stands before an event of a run is taken in: the reader gave these events, what the host met of them is answered, and
-- the link makes `makes` of those to come.
pub record Progress (task : Task) (makes : (List Event → ℕ) → List Event → List Event) (before now : Outside) (reader : ReaderState) (host : Host)
    (report : List Row) : Type 0 where
  pub events : List Event
  pub front : List ℕ
  pub in_order : AreInOrder 0 events
  pub few : length events ≤ task.max
  pub counted : length events ≡ reader.events
  pub latest : last_time 0 events ≡ reader.last
  pub placed : length front ≡ reader.offset
  pub spelled : SpellsAll events front
  pub took : Consumes before.left now.left front
  pub linked : (more : List Event)
      → task.link (events ++ more) ≡ task.link events ++ makes (told_behind task.settings task.words (met_history task events)) more
  pub as_many : length (task.link events) ≡ length events
  pub agrees : AgreesWithHistory task.settings (met_history task events) host
  pub answered : AreAnswered task before now report events

-- before the first event
pub starts : (task : Task) (makes : (List Event → ℕ) → List Event → List Event) (before after : Outside) (host : Host) (report : List Row)
    → report ≡ [] → ((events : List Event) → task.link events ≡ makes (told_by task.settings task.words) events)
    → ((told : List Event → ℕ) → makes told [] ≡ [])
    → AgreesWithHistory task.settings [] host
    → Appends before.captured after.captured (global_header 1) → after.left ≡ before.left → Progress task makes before after at_start host report
starts task makes before after host report empty is_link ends agrees header same =
    let none : task.link [] ≡ [] = is_link [] ∙ ends (told_by task.settings task.words) in
    let P : List Event → Type 0 = λ events. AreRows task.settings task.words events report in
    let U : List Row → Type 0 = λ rows. AreRows task.settings task.words [] rows in
    let Q : List ℕ → Type 0 = λ l. Appends before.captured after.captured l in
    let S : List Event → Type 0 = λ events. Appends before.captured after.captured (run_capture events report) in
    let R : Option (List ℕ) → Type 0 = λ left. Consumes before.left left [] in
    let L : List Event → Type 0 = λ events. (more : List Event)
    → task.link more ≡ events ++ makes (told_behind task.settings task.words (history task.settings task.words events)) more in
    let V : List Event → Type 0 = λ events. AgreesWithHistory task.settings (history task.settings task.words events) host in
    record {
      events = [];
      front = [];
      in_order = tt;
      few = omega arith;
      counted = refl;
      latest = refl;
      placed = refl;
      spelled = refl;
      took = subst R (sym same) (Consumes-nil before.left);
      linked = subst L (sym none) is_link;
      as_many = ap length none;
      agrees = subst V (sym none) agrees;
      answered = record {
        enough = omega arith;
        rows = subst P (sym none) (subst U (sym empty) tt);
        captured = subst S (sym none) (subst Q (sym (append-nil (global_header 1))) header);
      };
    }

-- what was taken from the source with a part behind the events
unfoldable pub taken_with : {makes : (List Event → ℕ) → List Event → List Event} (task : Task) (before now after : Outside) (reader : ReaderState) (host : Host)
    (report : List Row) (part : List ℕ)
    → Progress task makes before now reader host report → Consumes now.left after.left part → Taken task.max before after
taken_with task before now after reader host report part progress took = record {
  events = progress.events;
  front = progress.front;
  part = part;
  in_order = progress.in_order;
  few = progress.few;
  spelled = progress.spelled;
  took = Consumes-trans before.left now.left after.left progress.front part progress.took took;
}

-- and with the event that was read next
unfoldable pub taken_next : {makes makes_next : (List Event → ℕ) → List Event → List Event} {id : ℕ} (task : Task) (before now after : Outside)
    (old new : ReaderState) (host : Host) (report : List Row) (at : ℤ) (event : ScriptEvent)
    (progress : Progress task makes before now old host report) (meets : MeetsEvent task.max old new now.left after.left makes makes_next id at event)
    → Taken task.max before after
taken_next task before now after old new host report at event progress meets =
    let e = meets.read in
    let P : ℕ → Type 0 = λ t. IsNext t e in
    let Q : List ℕ → Type 0 = λ l. Consumes before.left after.left l in
    record {
      events = progress.events ++ e ∷ [];
      front = progress.front ++ meets.gives.front;
      part = [];
      in_order = in_order_push 0 progress.events e progress.in_order (subst P (sym progress.latest) meets.gives.next);
      few = omega (arith, length-append progress.events (e ∷ []), progress.counted, meets.gives.within);
      spelled = spells_push progress.events e progress.front meets.gives.front progress.spelled meets.gives.spelled;
      took = subst Q (sym (append-nil (progress.front ++ meets.gives.front)))
          (Consumes-trans before.left now.left after.left progress.front meets.gives.front progress.took meets.gives.took);
    }

-- what the host met, with the event that was read next
pub met_next : {makes makes_next : (List Event → ℕ) → List Event → List Event} {id : ℕ} (task : Task) (before now after : Outside)
    (old new : ReaderState) (host : Host) (report : List Row) (at : ℤ) (event : ScriptEvent)
    (progress : Progress task makes before now old host report) (meets : MeetsEvent task.max old new now.left after.left makes makes_next id at event)
    → told_behind task.settings task.words (met_history task progress.events) [] ≡ id
    → task.link (progress.events ++ meets.read ∷ []) ≡ task.link progress.events ++ event_at at event ∷ []
met_next {makes} {makes_next} task before now after old new host report at event progress meets is_id =
    let told = told_behind task.settings task.words (met_history task progress.events) in
    link_push task.link makes makes_next told progress.events meets.read (event_at at event) progress.linked (meets.passes told is_id)
    (meets.ends (λ later. told (event_at at event ∷ later)))

-- the words of the event that was read next
pub next_words : (task : Task) (events : List Event) (count : ℕ) (drawn : EventWords) → length events ≡ count → drawn ≡ words_at task.words count
    → drawn ≡ words_at task.words (length (history task.settings task.words events))
next_words task events count drawn counted are_drawn =
    are_drawn ∙ ap (words_at task.words) (sym counted ∙ sym (length-history_from task.settings task.words [] events ∙ zero-add (length events)))

-- the event that was read next is answered
pub goes_on : {makes makes_next : (List Event → ℕ) → List Event → List Event} {id : ℕ} (task : Task) (before now after : Outside) (old new : ReaderState)
    (host_old host_new : Host) (report_old report_new : List Row) (at : ℤ) (event : ScriptEvent) (drawn : EventWords)
    → Progress task makes before now old host_old report_old → CanRun task.settings → drawn ≡ words_at task.words old.events
    → 3 * (old.events + 1) ≤ length task.words → MeetsEvent task.max old new now.left after.left makes makes_next id at event
    → ((before : List Entry) → AgreesWithHistory task.settings before host_old → told_behind task.settings task.words before [] ≡ id)
    → TakesEvent at event drawn (standing host_old now.captured report_old) (standing host_new after.captured report_new)
    → Progress task makes_next before after new host_new report_new
unfolding taken_next
goes_on {makes} {makes_next} task before now after old new host_old host_new report_old report_new at event drawn progress can are_drawn enough meets tells takes =
    let e = event_at at event in
    let met = task.link progress.events in
    let next = taken_next task before now after old new host_old report_old at event progress meets in
    let answered = progress.answered in
    let counted = rows_count task.settings task.words [] met report_old answered.rows in
    let is_place = next_words task met old.events drawn (progress.as_many ∙ progress.counted) are_drawn in
    let here = met_history task progress.events in
    let told = told_behind task.settings task.words here in
    let is_id = tells here progress.agrees in
    let is_met = met_next task before now after old new host_old report_old at event progress meets is_id in
    let done = placed task.settings task.words here at event drawn
    (standing host_old now.captured report_old) (standing host_new after.captured report_new) takes.places meets.time can progress.agrees is_place in
    let is_entry = history_from-push task.settings task.words [] met e in
    let grown = capture_push met report_old e takes.places.row counted in
    let gives = meets.gives in
    let many : length (met ++ e ∷ []) ≡ length (progress.events ++ meets.read ∷ []) =
    omega (arith, length-append met (e ∷ []), progress.as_many, length-append progress.events (meets.read ∷ [])) in
    let Q : List ℕ → Type 0 = λ l. Consumes before.left after.left l in
    let S : List Row → Type 0 = λ rows. Appends before.captured after.captured (run_capture (met ++ e ∷ []) rows) in
    let T : List ℕ → Type 0 = λ l. Appends before.captured after.captured l in
    let U : List Row → Type 0 = λ rows. AreRows task.settings task.words (met ++ e ∷ []) rows in
    let V : List Entry → Type 0 = λ entries. AgreesWithHistory task.settings entries host_new in
    let A : List Event → Type 0 = λ events. AgreesWithHistory task.settings (history task.settings task.words events) host_new in
    let B : List Event → Type 0 = λ events. AreRows task.settings task.words events report_new in
    let C : List Event → Type 0 = λ events. Appends before.captured after.captured (run_capture events report_new) in
    let M : List Entry → Type 0 = λ entries. (more : List Event) → task.link ((progress.events ++ meets.read ∷ []) ++ more)
    ≡ (met ++ e ∷ []) ++ makes_next (told_behind task.settings task.words entries) more in
    let L : List Event → Type 0 = λ events. (more : List Event) → task.link ((progress.events ++ meets.read ∷ []) ++ more)
    ≡ events ++ makes_next (told_behind task.settings task.words (history task.settings task.words events)) more in
    record {
      events = next.events;
      front = next.front;
      in_order = next.in_order;
      few = next.few;
      counted = omega (arith, length-append progress.events (meets.read ∷ []), progress.counted, ap (λ (s : ReaderState). s.events) gives.moved, meets.stays.events);
      latest = last_time_push 0 progress.events meets.read ∙ sym (ap (λ (s : ReaderState). s.last) gives.moved) ∙ sym meets.stays.last;
      placed = omega (arith, length-append progress.front gives.front, progress.placed, ap (λ (s : ReaderState). s.offset) gives.moved, meets.stays.offset);
      spelled = next.spelled;
      took = subst Q (append-nil (progress.front ++ gives.front)) next.took;
      linked = subst L (sym is_met) (subst M (sym is_entry)
          (link_goes_on task.link makes makes_next told progress.events meets.read e progress.linked (meets.passes told is_id)));
      as_many = ap length is_met ∙ many;
      agrees = subst A (sym is_met) (subst V (sym is_entry) done.agrees);
      answered = record {
        enough = omega (arith, length-append progress.events (meets.read ∷ []), progress.counted);
        rows = subst B (sym is_met) (subst U (sym takes.places.placed)
            (rows_push task.settings task.words [] met report_old e takes.places.row answered.rows done.row_of));
        captured = subst C (sym is_met) (subst S (sym takes.places.placed) (subst T (sym grown)
            (Appends-then before.captured now.captured after.captured (run_capture met report_old) (event_records e takes.places.row)
            answered.captured takes.captured)));
      };
    }

-- the words ran out at the event that was read
pub ran_out : {makes makes_next : (List Event → ℕ) → List Event → List Event} {id : ℕ} (task : Task) (before now after : Outside)
    (old new : ReaderState) (host : Host) (report : List Row) (at : ℤ) (event : ScriptEvent)
    → Progress task makes before now old host report → MeetsEvent task.max old new now.left after.left makes makes_next id at event
    → after.captured ≡ now.captured → length task.words < 3 * (old.events + 1) → RanOut task before after report
unfolding taken_next
ran_out task before now after old new host report at event progress meets same short =
    let P : Option (List ℕ) → Type 0 = λ c. Appends before.captured c (run_capture (task.link progress.events) report) in
    record {
      taken = taken_next task before now after old new host report at event progress meets;
      whole = refl;
      answered_events = progress.events;
      event = meets.read;
      last = refl;
      short = omega (arith, length-append progress.events (meets.read ∷ []), progress.counted);
      answered = record {
        enough = progress.answered.enough;
        rows = progress.answered.rows;
        captured = subst P (sym same) progress.answered.captured;
      };
    }
