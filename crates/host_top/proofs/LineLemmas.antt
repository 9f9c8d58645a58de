-- What is told of the entries of a capture that is printed is the text that was handed on.
use Rattle.std.proofs.Common.{◌≡◌, ℕ, inl, inr, List, [], Option, Result, Ok, Err, OnOk, IfErr, refl}
use Rattle.capture_explain.specs.Capture.{CaptureEntry}
use Rattle.capture_explain.specs.declared.error.ExplainError.{ExplainError}
use Rattle.capture_explain.specs.declared.error.ExplainError.TheVariants as error
use Rattle.capture_explain.specs.Explained.{LacksHeader, ReadsWhole, Stops, Taken, HasCause, Completes}
use Rattle.capture_explain.specs.PrintText.{print_bytes}
use Rattle.host_top.specs.declared.ending.Ending.{Ending}
use Rattle.host_top.specs.Explain.{ending_explained, PrintsAs, TellsLines}

-- what is told of some entries is told of their text
abbrev Tells : (List ℕ → Type 0) → List CaptureEntry → Type 0
Tells Handed entries = Handed (print_bytes entries)

-- some lines were handed on, and an end was reached with them
abbrev With : (List ℕ → Type 0) → (List ℕ → Type 0) → Type 0
With Handed Ends = (lines : List ℕ) × Ends lines × Handed lines

module _ (max : ℕ) (left_old left_new : Option (List ℕ)) (Handed : List ℕ → Type 0) where
  whole : ReadsWhole max left_old left_new (Tells Handed) → With Handed (λ lines. ReadsWhole max left_old left_new (TellsLines lines))
  whole reads = (
    print_bytes reads.entries,
    record { entries = reads.entries; file = reads.file; few = reads.few; tells = refl; ended = reads.ended },
    reads.tells,
  )

  headless : (one : ExplainError) → LacksHeader one left_old left_new (Tells Handed)
      → With Handed (λ lines. LacksHeader one left_old left_new (TellsLines lines))
  headless one lacks = (print_bytes [], record { none = refl; cuts = lacks.cuts }, lacks.none)

  -- what was taken, where the lines are told of its entries
  abbrev taken_with : (taken : Taken max left_old left_new (Tells Handed)) → Taken max left_old left_new (TellsLines (print_bytes taken.entries))
  taken_with taken = record {
    entries = taken.entries;
    front = taken.front;
    part = taken.part;
    is_front = taken.is_front;
    few = taken.few;
    tells = refl;
    took = taken.took;
  }

  stops : (one : ExplainError) → Stops max left_old left_new (Tells Handed) one → With Handed (λ lines. Stops max left_old left_new (TellsLines lines) one)
  stops error.Header stop = headless error.Header stop
  stops (error.Entry offset) stop =
      (print_bytes stop.taken.entries, record { taken = taken_with stop.taken; ends = stop.ends }, stop.taken.tells)
  stops error.Limit stop =
      (print_bytes stop.taken.entries, record { taken = taken_with stop.taken; ends = stop.ends }, stop.taken.tells)
  stops error.Read (inl lacks) = let found = headless error.Read lacks in (found.0, inl found.1, found.2)
  stops error.Read (inr stop) =
      (print_bytes stop.taken.entries, inr (record { taken = taken_with stop.taken; ends = stop.ends }), stop.taken.tells)
  stops error.NoMemory (inl none) = (print_bytes [], inl (record { none = refl; stays = none.stays }), none.none)
  stops error.NoMemory (inr lacks) = (
    print_bytes lacks.entries,
    inr (record {
      entries = lacks.entries;
      front = lacks.front;
      entry = lacks.entry;
      is_front = lacks.is_front;
      few = lacks.few;
      fits = lacks.fits;
      tells = refl;
      took = lacks.took;
    }),
    lacks.tells,
  )

  -- a printing that answered so
  pub prints_as : (faults_old faults_new : ℕ) (answer : Result (Unit {0}) ExplainError) (ending : Ending)
      → ending ≡ ending_explained answer
      → OnOk answer (ReadsWhole max left_old left_new (Tells Handed)) → OnOk answer (faults_new ≡ faults_old)
      → IfErr answer (Stops max left_old left_new (Tells Handed)) → IfErr answer (HasCause max left_old faults_old faults_new)
      → Completes max left_old faults_old faults_new answer
      → With Handed (λ lines. PrintsAs max left_old left_new faults_old faults_new lines ending)
  prints_as faults_old faults_new (Ok _) ending is reads quiet stop cause complete =
      let found = whole reads in (
        found.0,
        record { answer = Ok tt; ends = is; whole = found.1; quiet = quiet; stops = tt; cause = tt; complete = complete },
        found.2,
      )
  prints_as faults_old faults_new (Err one) ending is reads quiet stop cause complete =
      let found = stops one stop in (
        found.0,
        record { answer = Err one; ends = is; whole = tt; quiet = tt; stops = found.1; cause = cause; complete = complete },
        found.2,
      )
