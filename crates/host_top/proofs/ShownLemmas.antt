-- What is told of the events of a script, or of the entries of a capture, that is shown is the text that was handed on.
use Rattle.std.proofs.Common.{◌≡◌, ℕ, inl, inr, List, [], map, Option, Result, Ok, Err, OnOk, IfErr, refl}
use Rattle.capture_explain.specs.Capture.{CaptureEntry}
use Rattle.capture_explain.specs.Explained.{LacksHeader}
use Rattle.capture_explain.specs.declared.error.ExplainError.{ExplainError}
use Rattle.capture_explain.specs.declared.error.ExplainError.TheVariants as explain
use Rattle.host_model.specs.Script.{Event}
use Rattle.script_text.specs.CapturedFrames.{entry_event}
use Rattle.script_text.specs.EventText.{events_text}
use Rattle.script_text.specs.Shown.{ReadsWhole, Taken, Stops, HasCause, Completes}
use Rattle.script_text.specs.ShownFrames.{ReadsWhole as ReadsFile, Taken as TakenFrames, Stops as StopsFrames, HasCause as HasCauseOfFrames, Completes as CompletesFrames}
use Rattle.script_text.specs.declared.showing.ShowError.{ShowError}
use Rattle.script_text.specs.declared.showing.ShowError.TheVariants as error
use Rattle.host_top.specs.declared.ending.Ending.{Ending}
use Rattle.host_top.specs.Explain.{ending_explained}
use Rattle.host_top.specs.Show.{ending_shown, ShowsAs, FramesAs, TellsEvents, TellsFrames}

abbrev frames_text : List CaptureEntry → List ℕ
frames_text entries = events_text (map entry_event entries)

-- some lines were handed on, and an end was reached with them
abbrev With : (List ℕ → Type 0) → (List ℕ → Type 0) → Type 0
With Handed Ends = (lines : List ℕ) × Ends lines × Handed lines

module _ (max : ℕ) (left_old left_new : Option (List ℕ)) (Handed : List ℕ → Type 0) (Told : List Event → Type 0)
    (handed : (events : List Event) → Told events → Handed (events_text events)) where
  whole : ReadsWhole max left_old left_new Told → With Handed (λ lines. ReadsWhole max left_old left_new (TellsEvents lines))
  whole reads = (
    events_text reads.events,
    record { events = reads.events; script = reads.script; read_again = reads.read_again; tells = refl; ended = reads.ended },
    handed reads.events reads.tells,
  )

  abbrev taken_with : (taken : Taken max left_old left_new Told) → Taken max left_old left_new (TellsEvents (events_text taken.events))
  taken_with taken = record {
    events = taken.events;
    front = taken.front;
    part = taken.part;
    read_again = taken.read_again;
    spelled = taken.spelled;
    tells = refl;
    took = taken.took;
  }

  stops : (one : ShowError) → Stops max left_old left_new Told one → With Handed (λ lines. Stops max left_old left_new (TellsEvents lines) one)
  stops (error.Script offset) stop =
      (events_text stop.taken.events, record { taken = taken_with stop.taken; ends = stop.ends }, handed stop.taken.events stop.taken.tells)
  stops error.Limit stop =
      (events_text stop.taken.events, record { taken = taken_with stop.taken; ends = stop.ends }, handed stop.taken.events stop.taken.tells)
  stops error.Read stop =
      (events_text stop.taken.events, record { taken = taken_with stop.taken; ends = stop.ends }, handed stop.taken.events stop.taken.tells)
  stops error.NoMemory none = (events_text [], record { none = refl; stays = none.stays }, handed [] none.none)

  -- a text of a script that was answered so
  pub shows_as : (faults_old faults_new : ℕ) (answer : Result (Unit {0}) ShowError) (ending : Ending)
      → ending ≡ ending_shown answer
      → OnOk answer (ReadsWhole max left_old left_new Told) → OnOk answer (faults_new ≡ faults_old)
      → IfErr answer (Stops max left_old left_new Told) → IfErr answer (HasCause max left_old faults_old faults_new)
      → Completes max left_old faults_old faults_new answer
      → With Handed (λ lines. ShowsAs max left_old left_new faults_old faults_new lines ending)
  shows_as faults_old faults_new (Ok _) ending is reads quiet stop cause complete =
      let found = whole reads in (
        found.0,
        record { answer = Ok tt; ends = is; whole = found.1; quiet = quiet; stops = tt; cause = tt; complete = complete },
        found.2,
      )
  shows_as faults_old faults_new (Err one) ending is reads quiet stop cause complete =
      let found = stops one stop in (
        found.0,
        record { answer = Err one; ends = is; whole = tt; quiet = tt; stops = found.1; cause = cause; complete = complete },
        found.2,
      )

module _ (max : ℕ) (left_old left_new : Option (List ℕ)) (Handed : List ℕ → Type 0) (Told : List CaptureEntry → Type 0)
    (handed : (entries : List CaptureEntry) → Told entries → Handed (frames_text entries)) where
  whole_file : ReadsFile max left_old left_new Told → With Handed (λ lines. ReadsFile max left_old left_new (TellsFrames lines))
  whole_file reads = (
    frames_text reads.entries,
    record { entries = reads.entries; file = reads.file; read_again = reads.read_again; tells = refl; ended = reads.ended },
    handed reads.entries reads.tells,
  )

  headless : (one : ExplainError) → LacksHeader one left_old left_new Told
      → With Handed (λ lines. LacksHeader one left_old left_new (TellsFrames lines))
  headless one lacks = (frames_text [], record { none = refl; cuts = lacks.cuts }, handed [] lacks.none)

  abbrev frames_with : (taken : TakenFrames max left_old left_new Told)
      → TakenFrames max left_old left_new (TellsFrames (frames_text taken.entries))
  frames_with taken = record {
    entries = taken.entries;
    front = taken.front;
    part = taken.part;
    is_front = taken.is_front;
    few = taken.few;
    read_again = taken.read_again;
    tells = refl;
    took = taken.took;
  }

  stops_frames : (one : ExplainError) → StopsFrames max left_old left_new Told one
      → With Handed (λ lines. StopsFrames max left_old left_new (TellsFrames lines) one)
  stops_frames explain.Header stop = headless explain.Header stop
  stops_frames (explain.Entry offset) stop =
      (frames_text stop.taken.entries, record { taken = frames_with stop.taken; ends = stop.ends }, handed stop.taken.entries stop.taken.tells)
  stops_frames explain.Limit stop =
      (frames_text stop.taken.entries, record { taken = frames_with stop.taken; ends = stop.ends }, handed stop.taken.entries stop.taken.tells)
  stops_frames explain.Read (inl lacks) = let found = headless explain.Read lacks in (found.0, inl found.1, found.2)
  stops_frames explain.Read (inr stop) =
      (frames_text stop.taken.entries, inr (record { taken = frames_with stop.taken; ends = stop.ends }), handed stop.taken.entries stop.taken.tells)
  stops_frames explain.NoMemory none = (frames_text [], record { none = refl; stays = none.stays }, handed [] none.none)

  -- and one of the frames of a capture
  pub frames_as : (faults_old faults_new : ℕ) (answer : Result (Unit {0}) ExplainError) (ending : Ending)
      → ending ≡ ending_explained answer
      → OnOk answer (ReadsFile max left_old left_new Told) → OnOk answer (faults_new ≡ faults_old)
      → IfErr answer (StopsFrames max left_old left_new Told) → IfErr answer (HasCauseOfFrames max left_old faults_old faults_new)
      → CompletesFrames max left_old faults_old faults_new answer
      → With Handed (λ lines. FramesAs max left_old left_new faults_old faults_new lines ending)
  frames_as faults_old faults_new (Ok _) ending is reads quiet stop cause complete =
      let found = whole_file reads in (
        found.0,
        record { answer = Ok tt; ends = is; whole = found.1; quiet = quiet; stops = tt; cause = tt; complete = complete },
        found.2,
      )
  frames_as faults_old faults_new (Err one) ending is reads quiet stop cause complete =
      let found = stops_frames one stop in (
        found.0,
        record { answer = Err one; ends = is; whole = tt; quiet = tt; stops = found.1; cause = cause; complete = complete },
        found.2,
      )
