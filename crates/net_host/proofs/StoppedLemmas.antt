-- What a run leaves that the reader stopped, and why.
use Rattle.std.proofs.Common.{◌≡◌, ℕ, ◌<◌, ◌≤◌, List, ◌++◌, length, Option, Some, None, IfSome, ap, sym, subst, ◌∙◌, refl, arith, append-nil}
use Rattle.std.specs.Io.KnownBytes.{Appends, Consumes, IsAtEnd}
use Rattle.wire_base.specs.Causes.{IsRisen}
use Rattle.host_model.specs.Script.{Event, SpellsAll, AreInOrder, last_time, BeginsNoEvent}
use Rattle.host_model.specs.Classes.{IsScript, BeginsWith, IsOverLimit, IsBrokenAt}
use Rattle.net_host.specs.declared.host.Host.{Host}
use Rattle.net_host.specs.declared.report.Row.{Row}
use Rattle.script_reader.specs.declared.script.ReadEventError.{ReadEventError}
use Rattle.script_reader.specs.declared.script.ReadEventError.TheVariants as read
use Rattle.net_host.specs.Captured.{run_capture}
use Rattle.net_host.specs.Outside.{Outside, IsQuiet}
use Rattle.script_reader.specs.ReaderState.{ReaderState}
use Rattle.script_reader.specs.Reading.{EndsWith, RefusesEvent}
use Rattle.net_host.specs.Run.{Task, AreAnswered, Taken, EndsBy, Stopped, Leaves, HasCause, Finished}
use Rattle.net_host.specs.RunError.{of_read_event}
use Rattle.net_host.proofs.ProgressLemmas.{Progress, taken_with}

-- answers stay where the capture does
pub still_answered : (task : Task) (before now after : Outside) (report : List Row) (events : List Event) → after.captured ≡ now.captured
    → AreAnswered task before now report events → AreAnswered task before after report events
still_answered task before now after report events same answered =
    let P : Option (List ℕ) → Type 0 = λ c. Appends before.captured c (run_capture (task.link events) report) in
    record { enough = answered.enough; rows = answered.rows; captured = subst P (sym same) answered.captured }

-- what the reader said of the answer: where it was on the script, and how many events it had read
pub record SaidBy (task : Task) (reader : ReaderState) (left : Option (List ℕ)) (error : ReadEventError) : Type 0 where
  pub script : (offset : ℕ) → error ≡ read.Script offset
      → (offset ≡ reader.offset) × (reader.events < task.max) × IfSome left (λ bytes. (0 < length bytes) × BeginsNoEvent reader.last bytes)
  pub limit : error ≡ read.Limit → (task.max ≤ reader.events) × IfSome left (λ bytes. 0 < length bytes)

-- a run that stopped so between two events
stopped : {makes : (List Event → ℕ) → List Event → List Event} (task : Task) (before now after : Outside) (old new : ReaderState) (host : Host) (report : List Row) (error : ReadEventError)
    (progress : Progress task makes before now old host report) (refuses : RefusesEvent task.max old new now.left after.left error)
    → after.captured ≡ now.captured → (Ends : Taken task.max before after → Type 0)
    → Ends (taken_with task before now after old host report refuses.part progress refuses.took) → Stopped task.max before after (AreAnswered task before after report) Ends
unfolding taken_with
stopped task before now after old new host report error progress refuses same Ends ends = record {
  taken = taken_with task before now after old host report refuses.part progress refuses.took;
  ends = ends;
  answered = still_answered task before now after report progress.events same progress.answered;
}

-- the part behind the events is the reader's
ends_by : {makes : (List Event → ℕ) → List Event → List Event} (task : Task) (before now after : Outside) (old new : ReaderState) (host : Host) (report : List Row) (error : ReadEventError)
    (progress : Progress task makes before now old host report) (refuses : RefusesEvent task.max old new now.left after.left error)
    → EndsBy error (taken_with task before now after old host report refuses.part progress refuses.took)
unfolding taken_with
ends_by task before now after old new host report error progress refuses =
    let P : ℕ → Type 0 = λ last. EndsWith error last after.left refuses.part in
    subst P (sym progress.latest) refuses.ends

pub reading_leaves : {makes : (List Event → ℕ) → List Event → List Event} (task : Task) (before now after : Outside) (old new : ReaderState) (host : Host) (report : List Row) (error : ReadEventError)
    → Progress task makes before now old host report → RefusesEvent task.max old new now.left after.left error → SaidBy task old now.left error
    → after.captured ≡ now.captured → Leaves task before after report (of_read_event error)
unfolding taken_with
reading_leaves task before now after old new host report (read.Script offset) progress refuses said same =
    let place : offset ≡ length progress.front = (said.script offset refl).0 ∙ sym progress.placed in
    stopped task before now after old new host report (read.Script offset) progress refuses same
    (λ taken. (offset ≡ length taken.front) × EndsBy (read.Script offset) taken)
    (place, ends_by task before now after old new host report (read.Script offset) progress refuses)
reading_leaves task before now after old new host report read.Limit progress refuses said same =
    let full : length progress.events ≡ task.max = omega (arith, progress.few, progress.counted, (said.limit refl).0) in
    stopped task before now after old new host report read.Limit progress refuses same
    (λ taken. (length taken.events ≡ task.max) × EndsBy read.Limit taken)
    (full, ends_by task before now after old new host report read.Limit progress refuses)
reading_leaves task before now after old new host report read.Read progress refuses said same =
    let tried : 0 < length refuses.part → length progress.events < task.max = λ some. omega (arith, progress.counted, refuses.tried refl some) in
    stopped task before now after old new host report read.Read progress refuses same
    (λ taken. (0 < length taken.part → length taken.events < task.max) × EndsBy read.Read taken)
    (tried, ends_by task before now after old new host report read.Read progress refuses)

-- the bytes of a script that was read so far
begins : (bytes more front : List ℕ) (events : List Event) → AreInOrder 0 events → SpellsAll events front → bytes ≡ front ++ more
    → BeginsWith events front more bytes
begins bytes more front events in_order spelled whole = record { in_order = in_order; spelled = spelled; whole = whole }

broken_at : (max : ℕ) (left_old left_now : Option (List ℕ)) (events : List Event) (front : List ℕ) (last : ℕ)
    → AreInOrder 0 events → SpellsAll events front → Consumes left_old left_now front → length events < max → last_time 0 events ≡ last
    → IfSome left_now (λ bytes. (0 < length bytes) × BeginsNoEvent last bytes) → IfSome left_old (λ bytes. IsBrokenAt max bytes (length front))
broken_at max None left_now events front last in_order spelled took few latest ends = tt
broken_at max (Some bytes) None events front last in_order spelled took few latest ends = absurd took
broken_at max (Some bytes) (Some more) events front last in_order spelled took few latest ends =
    let P : ℕ → Type 0 = λ t. BeginsNoEvent t more in
    record {
      events = events;
      front = front;
      more = more;
      begins = begins bytes more front events in_order spelled took;
      few = few;
      place = refl;
      goes_on = ends.0;
      no_event = subst P (sym latest) ends.1;
    }

over_limit : (max : ℕ) (left_old left_now : Option (List ℕ)) (events : List Event) (front : List ℕ)
    → AreInOrder 0 events → SpellsAll events front → Consumes left_old left_now front → length events ≡ max
    → IfSome left_now (λ bytes. 0 < length bytes) → IfSome left_old (IsOverLimit max)
over_limit max None left_now events front in_order spelled took full goes_on = tt
over_limit max (Some bytes) None events front in_order spelled took full goes_on = absurd took
over_limit max (Some bytes) (Some more) events front in_order spelled took full goes_on = record {
  events = events;
  front = front;
  more = more;
  begins = begins bytes more front events in_order spelled took;
  full = full;
  goes_on = goes_on;
}

-- the counts of faults after a call of the reader
pub record CountedBy (before now after : Outside) (error : ReadEventError) : Type 0 where
  pub quiet : IsQuiet before now
  pub capture : after.capture_faults ≡ now.capture_faults
  pub source : (error ≡ read.Read → ⊥) → after.read_faults ≡ now.read_faults
  pub risen : error ≡ read.Read → IsRisen now.read_faults after.read_faults

quiet_after : (before now after : Outside) (error : ReadEventError) → CountedBy before now after error → (error ≡ read.Read → ⊥) → IsQuiet before after
quiet_after before now after error counted other = record {
  source = counted.source other ∙ counted.quiet.source;
  capture = counted.capture ∙ counted.quiet.capture;
}

pub reading_cause : {makes : (List Event → ℕ) → List Event → List Event} (task : Task) (before now after : Outside) (reader : ReaderState) (host : Host) (report : List Row) (error : ReadEventError)
    → Progress task makes before now reader host report → SaidBy task reader now.left error → CountedBy before now after error
    → HasCause task before after (of_read_event error)
reading_cause task before now after reader host report (read.Script offset) progress said counted =
    let says = said.script offset refl in
    let P : ℕ → Type 0 = λ o. IfSome before.left (λ bytes. IsBrokenAt task.max bytes o) in (
      subst P (progress.placed ∙ sym says.0)
          (broken_at task.max before.left now.left progress.events progress.front reader.last progress.in_order progress.spelled progress.took
          (omega (arith, progress.counted, says.1)) progress.latest says.2),
      quiet_after before now after (read.Script offset) counted (λ same. cc),
    )
reading_cause task before now after reader host report read.Limit progress said counted =
    let says = said.limit refl in (
      over_limit task.max before.left now.left progress.events progress.front progress.in_order progress.spelled progress.took
          (omega (arith, progress.few, progress.counted, says.0)) says.1,
      quiet_after before now after read.Limit counted (λ same. cc),
    )
reading_cause task before now after reader host report read.Read progress said counted =
    let P : ℕ → Type 0 = λ count. IsRisen count after.read_faults in
    (subst P counted.quiet.source (counted.risen refl), counted.capture ∙ counted.quiet.capture)

-- nothing is left behind the events: they are the whole script
whole_script : (max : ℕ) (left_old left_now : Option (List ℕ)) (events : List Event) (front : List ℕ)
    → AreInOrder 0 events → length events ≤ max → SpellsAll events front → Consumes left_old left_now front
    → IsAtEnd left_now → IfSome left_old (λ bytes. IsScript max bytes events)
whole_script max None left_now events front in_order few spelled took ended = tt
whole_script max (Some bytes) None events front in_order few spelled took ended = absurd took
whole_script max (Some bytes) (Some more) events front in_order few spelled took ended =
    let P : List ℕ → Type 0 = λ l. SpellsAll events l in
    let all : bytes ≡ front = took ∙ ap (λ l. front ++ l) ended ∙ append-nil front in
    record { in_order = in_order; few = few; whole = subst P (sym all) spelled }

pub finished : {makes : (List Event → ℕ) → List Event → List Event} (task : Task) (before now after : Outside) (reader : ReaderState) (host : Host) (report : List Row)
    → Progress task makes before now reader host report → IsAtEnd now.left → IsAtEnd after.left → after.captured ≡ now.captured
    → Finished task before after report
finished task before now after reader host report progress was_at_end at_end same = record {
  events = progress.events;
  script = whole_script task.max before.left now.left progress.events progress.front progress.in_order progress.few progress.spelled progress.took was_at_end;
  in_order = progress.in_order;
  few = progress.few;
  ended = at_end;
  answered = still_answered task before now after report progress.events same progress.answered;
}
