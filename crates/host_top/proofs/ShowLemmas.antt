-- What each ending says of a text of a script or of the frames of a capture.
use Rattle.std.proofs.Common.{◌≡◌, ℕ, ◌⊎◌, ⊎_elim, inl, inr, List, Option, Some, None, IfSome, OnOk, IfErr, Result, Ok, Err, ap, sym, subst, ◌∙◌, arith}
use Rattle.std.specs.Prelude.{IsOk}
use Rattle.std.specs.Result.{IsErrOf}
use Rattle.wire_base.specs.Causes.{IsRisen}
use Rattle.capture_explain.specs.Capture.{CaptureEntry, HasNoHeader}
use Rattle.capture_explain.specs.declared.error.ExplainError.{ExplainError}
use Rattle.capture_explain.specs.declared.error.ExplainError.TheVariants as explain
use Rattle.host_model.specs.Classes.{IsBrokenAt, IsOverLimit}
use Rattle.script_text.specs.CapturedFrames.{IsFile, IsBrokenAt as IsBrokenFile, IsOverLimit as IsLongFile}
use Rattle.script_text.specs.Shown.{ReadsWhole, HasCause}
use Rattle.script_text.specs.ShownFrames.{ReadsWhole as ReadsFile, HasCause as HasCauseOfFrames, Completes}
use Rattle.script_text.specs.declared.showing.ShowError.{ShowError}
use Rattle.script_text.specs.declared.showing.ShowError.TheVariants as error
use Rattle.host_top.specs.declared.ending.Ending.{Ending}
use Rattle.host_top.specs.Ending.{status_of}
use Rattle.host_top.specs.Explain.{ending_explained}
use Rattle.host_top.specs.HostMain.{IsNoFile, IsDoneIfFile}
use Rattle.host_top.specs.Show.{ending_shown, ShowsAs, FramesAs, TellsEvents, TellsFrames}
use Rattle.host_top.specs.Status.{IsUnlessNoMemory}

-- what a status says of an ending
pub record StatusSays (Whole Broken Long Risen : Type 0) (status : ℕ) : Type 0 where
  pub done : status ≡ 0 → Whole
  pub broken : status ≡ 2 → Broken
  pub long : status ≡ 3 → Long
  pub read : status ≡ 4 → Risen
  pub unrefused : status ≡ 1 → ⊥
  pub uncaptured : status ≡ 5 → ⊥

module _ (Whole Broken Long Risen : Type 0) where
  says_done : Whole → StatusSays Whole Broken Long Risen 0
  says_done whole = record {
    done = λ same. whole;
    broken = λ same. absurd (omega (arith, same));
    long = λ same. absurd (omega (arith, same));
    read = λ same. absurd (omega (arith, same));
    unrefused = λ same. omega (arith, same);
    uncaptured = λ same. omega (arith, same);
  }

  says_broken : Broken → StatusSays Whole Broken Long Risen 2
  says_broken broken = record {
    done = λ same. absurd (omega (arith, same));
    broken = λ same. broken;
    long = λ same. absurd (omega (arith, same));
    read = λ same. absurd (omega (arith, same));
    unrefused = λ same. omega (arith, same);
    uncaptured = λ same. omega (arith, same);
  }

  says_long : Long → StatusSays Whole Broken Long Risen 3
  says_long long = record {
    done = λ same. absurd (omega (arith, same));
    broken = λ same. absurd (omega (arith, same));
    long = λ same. long;
    read = λ same. absurd (omega (arith, same));
    unrefused = λ same. omega (arith, same);
    uncaptured = λ same. omega (arith, same);
  }

  says_read : Risen → StatusSays Whole Broken Long Risen 4
  says_read risen = record {
    done = λ same. absurd (omega (arith, same));
    broken = λ same. absurd (omega (arith, same));
    long = λ same. absurd (omega (arith, same));
    read = λ same. risen;
    unrefused = λ same. omega (arith, same);
    uncaptured = λ same. omega (arith, same);
  }

  says_no_memory : StatusSays Whole Broken Long Risen 7
  says_no_memory = record {
    done = λ same. absurd (omega (arith, same));
    broken = λ same. absurd (omega (arith, same));
    long = λ same. absurd (omega (arith, same));
    read = λ same. absurd (omega (arith, same));
    unrefused = λ same. omega (arith, same);
    uncaptured = λ same. omega (arith, same);
  }

-- at some place
broken_there : (max offset : ℕ) (left : Option (List ℕ)) → IfSome left (λ bytes. IsBrokenAt max bytes offset)
    → IfSome left (λ bytes. (offset : ℕ) × IsBrokenAt max bytes offset)
broken_there max offset None broken = tt
broken_there max offset (Some bytes) broken = (offset, broken)

headless : (max : ℕ) (left : Option (List ℕ)) → IfSome left HasNoHeader → IfSome left (IsNoFile max)
headless max None none = tt
headless max (Some bytes) none = inl none

broken_file : (max offset : ℕ) (left : Option (List ℕ)) → IfSome left (λ bytes. IsBrokenFile max bytes offset) → IfSome left (IsNoFile max)
broken_file max offset None broken = tt
broken_file max offset (Some bytes) broken = inr (offset, broken)

-- what is said of a text of a script
abbrev ShowSays : ℕ → Option (List ℕ) → Option (List ℕ) → ℕ → ℕ → List ℕ → ℕ → Type 0
ShowSays max left_old left_new faults_old faults_new lines status =
    StatusSays (ReadsWhole max left_old left_new (TellsEvents lines) × (faults_new ≡ faults_old))
    (IfSome left_old (λ bytes. (offset : ℕ) × IsBrokenAt max bytes offset)) (IfSome left_old (IsOverLimit max))
    (IsRisen faults_old faults_new) status

show_by : (max : ℕ) (left_old left_new : Option (List ℕ)) (faults_old faults_new : ℕ) (lines : List ℕ) (answer : Result (Unit {0}) ShowError)
    → OnOk answer (ReadsWhole max left_old left_new (TellsEvents lines)) → OnOk answer (faults_new ≡ faults_old)
    → IfErr answer (HasCause max left_old faults_old faults_new)
    → ShowSays max left_old left_new faults_old faults_new lines (status_of (ending_shown answer))
show_by max left_old left_new faults_old faults_new lines (Ok _) whole quiet cause = says_done _ _ _ _ (whole, quiet)
show_by max left_old left_new faults_old faults_new lines (Err (error.Script offset)) whole quiet cause =
    says_broken _ _ _ _ (broken_there max offset left_old cause.0)
show_by max left_old left_new faults_old faults_new lines (Err error.Limit) whole quiet cause = says_long _ _ _ _ cause.0
show_by max left_old left_new faults_old faults_new lines (Err error.Read) whole quiet cause = says_read _ _ _ _ cause
show_by max left_old left_new faults_old faults_new lines (Err error.NoMemory) whole quiet cause = says_no_memory _ _ _ _

pub show_says : (max : ℕ) (left_old left_new : Option (List ℕ)) (faults_old faults_new : ℕ) (lines : List ℕ) (ending : Ending)
    → ShowsAs max left_old left_new faults_old faults_new lines ending
    → ShowSays max left_old left_new faults_old faults_new lines (status_of ending)
show_says max left_old left_new faults_old faults_new lines ending shows =
    let P : Ending → Type 0 = λ e. ShowSays max left_old left_new faults_old faults_new lines (status_of e) in
    subst P (sym shows.ends) (show_by max left_old left_new faults_old faults_new lines shows.answer shows.whole shows.quiet shows.cause)

-- and of one of the frames of a capture
abbrev FramesSay : ℕ → Option (List ℕ) → Option (List ℕ) → ℕ → ℕ → List ℕ → ℕ → Type 0
FramesSay max left_old left_new faults_old faults_new lines status =
    StatusSays (ReadsFile max left_old left_new (TellsFrames lines) × (faults_new ≡ faults_old))
    (IfSome left_old (IsNoFile max)) (IfSome left_old (IsLongFile max)) (IsRisen faults_old faults_new) status

frames_by : (max : ℕ) (left_old left_new : Option (List ℕ)) (faults_old faults_new : ℕ) (lines : List ℕ) (answer : Result (Unit {0}) ExplainError)
    → OnOk answer (ReadsFile max left_old left_new (TellsFrames lines)) → OnOk answer (faults_new ≡ faults_old)
    → IfErr answer (HasCauseOfFrames max left_old faults_old faults_new)
    → FramesSay max left_old left_new faults_old faults_new lines (status_of (ending_explained answer))
frames_by max left_old left_new faults_old faults_new lines (Ok _) whole quiet cause = says_done _ _ _ _ (whole, quiet)
frames_by max left_old left_new faults_old faults_new lines (Err explain.Header) whole quiet cause = says_broken _ _ _ _ (headless max left_old cause.0)
frames_by max left_old left_new faults_old faults_new lines (Err (explain.Entry offset)) whole quiet cause =
    says_broken _ _ _ _ (broken_file max offset left_old cause.0)
frames_by max left_old left_new faults_old faults_new lines (Err explain.Limit) whole quiet cause = says_long _ _ _ _ cause.0
frames_by max left_old left_new faults_old faults_new lines (Err explain.Read) whole quiet cause = says_read _ _ _ _ cause
frames_by max left_old left_new faults_old faults_new lines (Err explain.NoMemory) whole quiet cause = says_no_memory _ _ _ _

pub frames_says : (max : ℕ) (left_old left_new : Option (List ℕ)) (faults_old faults_new : ℕ) (lines : List ℕ) (ending : Ending)
    → FramesAs max left_old left_new faults_old faults_new lines ending
    → FramesSay max left_old left_new faults_old faults_new lines (status_of ending)
frames_says max left_old left_new faults_old faults_new lines ending shows =
    let P : Ending → Type 0 = λ e. FramesSay max left_old left_new faults_old faults_new lines (status_of e) in
    subst P (sym shows.ends) (frames_by max left_old left_new faults_old faults_new lines shows.answer shows.whole shows.quiet shows.cause)

-- an answer that is not Ok and not out of memory
abbrev refused_by : ExplainError → Result (Unit {0}) ExplainError
refused_by one = Err one

not_failed : (one : ExplainError) → IsOk (refused_by one) ⊎ IsErrOf (refused_by one) explain.NoMemory
    → (refused_by one ≡ refused_by explain.NoMemory → ⊥) → ⊥
not_failed one is other =
    ⊎_elim (λ (ok : IsOk (refused_by one)). absurd (cc (ok))) (λ (same : IsErrOf (refused_by one) explain.NoMemory). other same) is

complete_by : (max : ℕ) (bytes : List ℕ) (faults_old faults_new result : ℕ) (answer : Result (Unit {0}) ExplainError) (entries : List CaptureEntry)
    → Completes max (Some bytes) faults_old faults_new answer → (IsRisen faults_old faults_new → ⊥)
    → result ≡ status_of (ending_explained answer) → IsFile max bytes entries → IsUnlessNoMemory 0 result
complete_by max bytes faults_old faults_new result (Ok _) entries complete read is file = inl is
complete_by max bytes faults_old faults_new result (Err explain.Header) entries complete read is file =
    absurd (not_failed explain.Header (complete entries file read) (λ same. cc))
complete_by max bytes faults_old faults_new result (Err (explain.Entry offset)) entries complete read is file =
    absurd (not_failed (explain.Entry offset) (complete entries file read) (λ same. cc))
complete_by max bytes faults_old faults_new result (Err explain.Limit) entries complete read is file =
    absurd (not_failed explain.Limit (complete entries file read) (λ same. cc))
complete_by max bytes faults_old faults_new result (Err explain.Read) entries complete read is file =
    absurd (not_failed explain.Read (complete entries file read) (λ same. cc))
complete_by max bytes faults_old faults_new result (Err explain.NoMemory) entries complete read is file = inr is

complete_in : (max : ℕ) (left_old : Option (List ℕ)) (faults_old faults_new result : ℕ) (answer : Result (Unit {0}) ExplainError)
    → Completes max left_old faults_old faults_new answer → (IsRisen faults_old faults_new → ⊥)
    → result ≡ status_of (ending_explained answer) → IfSome left_old (IsDoneIfFile max result)
complete_in max None faults_old faults_new result answer complete read is = tt
complete_in max (Some bytes) faults_old faults_new result answer complete read is = λ entries file.
    complete_by max bytes faults_old faults_new result answer entries complete read is file

pub frames_complete : (max : ℕ) (left_old left_new : Option (List ℕ)) (faults_old faults_new : ℕ) (lines : List ℕ) (ending : Ending) (result : ℕ)
    → FramesAs max left_old left_new faults_old faults_new lines ending → result ≡ status_of ending → (IsRisen faults_old faults_new → ⊥)
    → IfSome left_old (IsDoneIfFile max result)
frames_complete max left_old left_new faults_old faults_new lines ending result shows is read =
    complete_in max left_old faults_old faults_new result shows.answer shows.complete read (is ∙ ap status_of shows.ends)
