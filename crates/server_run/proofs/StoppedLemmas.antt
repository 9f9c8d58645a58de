-- What a run leaves that the reader stopped, and why.
use Rattle.std.proofs.Common.{◌≡◌, ℕ, ◌<◌, ◌≤◌, List, length, Option, IfSome, sym, subst, ◌∙◌, refl, arith}
use Rattle.std.specs.Io.KnownBytes.{Appends, IsAtEnd}
use Rattle.wire_base.specs.Causes.{IsRisen}
use Rattle.host_model.specs.Script.{Event, BeginsNoEvent}
use Rattle.host_model.specs.Classes.{IsBrokenAt}
use Rattle.lease_server.specs.State.{ServerState}
use Rattle.lease_server.specs.Values.{Values}
use Rattle.net_host.specs.Outside.{Outside, IsQuiet}
use Rattle.net_host.specs.Run.{EndsBy, Stopped, Taken}
use Rattle.net_host.proofs.StoppedLemmas.{CountedBy}
use Rattle.script_reader.specs.declared.script.ReadEventError.{ReadEventError}
use Rattle.script_reader.specs.declared.script.ReadEventError.TheVariants as read
use Rattle.script_reader.specs.ReaderState.{ReaderState}
use Rattle.script_reader.specs.Reading.{EndsWith, RefusesEvent}
use Rattle.server_run.specs.declared.report.ServeRow.{ServeRow}
use Rattle.server_run.specs.Captured.{serve_capture}
use Rattle.server_run.specs.ServeError.{of_read_event}
use Rattle.server_run.specs.Served.{AreServed, Finished, HasCause, Leaves}
use Rattle.server_run.proofs.ClassLemmas.{broken_at, over_limit, whole_script}
use Rattle.server_run.proofs.ProgressLemmas.{Progress}
use Rattle.server_run.proofs.ReadLemmas.{ReadSoFar, taken_with}

-- what was served stays so where the capture does
pub still_served : (values : Values) (before now after : Outside) (report : List ServeRow) (events : List Event)
    → after.captured ≡ now.captured → AreServed values before now report events → AreServed values before after report events
still_served values before now after report events same served =
    let P : Option (List ℕ) → Type 0 = λ c. Appends before.captured c (serve_capture report) in
    record { rows = served.rows; captured = subst P (sym same) served.captured }

-- what the reader said of the answer: where it was on the script, and how many events it had read
pub record SaidBy (max : ℕ) (reader : ReaderState) (left : Option (List ℕ)) (error : ReadEventError) : Type 0 where
  pub script : (offset : ℕ) → error ≡ read.Script offset
      → (offset ≡ reader.offset) × (reader.events < max) × IfSome left (λ bytes. (0 < length bytes) × BeginsNoEvent reader.last bytes)
  pub limit : error ≡ read.Limit → (max ≤ reader.events) × IfSome left (λ bytes. 0 < length bytes)

-- a run that stopped so between two events
stopped : (values : Values) (max : ℕ) (before now after : Outside) (old new : ReaderState) (server : ServerState) (report : List ServeRow)
    (error : ReadEventError) (progress : Progress values max before now old server report)
    (refuses : RefusesEvent max old new now.left after.left error) → after.captured ≡ now.captured
    → (Ends : Taken max before after → Type 0) → Ends (taken_with max before now after old refuses.part progress.read refuses.took)
    → Stopped max before after (AreServed values before after report) Ends
unfolding taken_with
stopped values max before now after old new server report error progress refuses same Ends ends = record {
  taken = taken_with max before now after old refuses.part progress.read refuses.took;
  ends = ends;
  answered = still_served values before now after report progress.read.events same progress.served;
}

-- the part behind the events is the reader's
ends_by : (max : ℕ) (before now after : Outside) (old new : ReaderState) (error : ReadEventError) (so_far : ReadSoFar max before now old)
    (refuses : RefusesEvent max old new now.left after.left error)
    → EndsBy error (taken_with max before now after old refuses.part so_far refuses.took)
unfolding taken_with
ends_by max before now after old new error so_far refuses =
    let P : ℕ → Type 0 = λ last. EndsWith error last after.left refuses.part in
    subst P (sym so_far.latest) refuses.ends

pub reading_leaves : (values : Values) (max : ℕ) (before now after : Outside) (old new : ReaderState) (server : ServerState)
    (report : List ServeRow) (error : ReadEventError) → Progress values max before now old server report
    → RefusesEvent max old new now.left after.left error → SaidBy max old now.left error → after.captured ≡ now.captured
    → Leaves values max before after report (of_read_event error)
unfolding taken_with
reading_leaves values max before now after old new server report (read.Script offset) progress refuses said same =
    let place : offset ≡ length progress.read.front = (said.script offset refl).0 ∙ sym progress.read.placed in
    stopped values max before now after old new server report (read.Script offset) progress refuses same
    (λ taken. (offset ≡ length taken.front) × EndsBy (read.Script offset) taken)
    (place, ends_by max before now after old new (read.Script offset) progress.read refuses)
reading_leaves values max before now after old new server report read.Limit progress refuses said same =
    let full : length progress.read.events ≡ max = omega (arith, progress.read.few, progress.read.counted, (said.limit refl).0) in
    stopped values max before now after old new server report read.Limit progress refuses same
    (λ taken. (length taken.events ≡ max) × EndsBy read.Limit taken)
    (full, ends_by max before now after old new read.Limit progress.read refuses)
reading_leaves values max before now after old new server report read.Read progress refuses said same =
    let tried : 0 < length refuses.part → length progress.read.events < max
    = λ some. omega (arith, progress.read.counted, refuses.tried refl some) in
    stopped values max before now after old new server report read.Read progress refuses same
    (λ taken. (0 < length taken.part → length taken.events < max) × EndsBy read.Read taken)
    (tried, ends_by max before now after old new read.Read progress.read refuses)

quiet_after : (before now after : Outside) (error : ReadEventError) → CountedBy before now after error → (error ≡ read.Read → ⊥) → IsQuiet before after
quiet_after before now after error counted other = record {
  source = counted.source other ∙ counted.quiet.source;
  capture = counted.capture ∙ counted.quiet.capture;
}

pub reading_cause : (max : ℕ) (before now after : Outside) (reader : ReaderState) (error : ReadEventError)
    → ReadSoFar max before now reader → SaidBy max reader now.left error → CountedBy before now after error
    → HasCause max before after (of_read_event error)
reading_cause max before now after reader (read.Script offset) so_far said counted =
    let says = said.script offset refl in
    let P : ℕ → Type 0 = λ o. IfSome before.left (λ bytes. IsBrokenAt max bytes o) in (
      subst P (so_far.placed ∙ sym says.0)
          (broken_at max before.left now.left so_far.events so_far.front reader.last so_far.in_order so_far.spelled so_far.took
          (omega (arith, so_far.counted, says.1)) so_far.latest says.2),
      quiet_after before now after (read.Script offset) counted (λ same. cc),
    )
reading_cause max before now after reader read.Limit so_far said counted =
    let says = said.limit refl in (
      over_limit max before.left now.left so_far.events so_far.front so_far.in_order so_far.spelled so_far.took
          (omega (arith, so_far.few, so_far.counted, says.0)) says.1,
      quiet_after before now after read.Limit counted (λ same. cc),
    )
reading_cause max before now after reader read.Read so_far said counted =
    let P : ℕ → Type 0 = λ count. IsRisen count after.read_faults in
    (subst P counted.quiet.source (counted.risen refl), counted.capture ∙ counted.quiet.capture)

pub finished : (values : Values) (max : ℕ) (before now after : Outside) (reader : ReaderState) (server : ServerState) (report : List ServeRow)
    → Progress values max before now reader server report → IsAtEnd now.left → IsAtEnd after.left → after.captured ≡ now.captured
    → Finished values max before after report
finished values max before now after reader server report progress was_at_end at_end same = record {
  events = progress.read.events;
  script = whole_script max before.left now.left progress.read.events progress.read.front progress.read.in_order progress.read.few progress.read.spelled progress.read.took was_at_end;
  in_order = progress.read.in_order;
  few = progress.read.few;
  ended = at_end;
  served = still_served values before now after report progress.read.events same progress.served;
}
