-- What each ending says of a reading of a capture.
use Rattle.std.proofs.Common.{◌≡◌, ℕ, ◌⊎◌, ⊎_elim, inl, inr, List, Option, Some, None, IfSome, OnOk, IfErr, Result, Ok, Err, ap, sym, ◌∙◌, arith}
use Rattle.std.specs.Prelude.{IsOk}
use Rattle.std.specs.Result.{IsErrOf}
use Rattle.wire_base.specs.Causes.{IsRisen}
use Rattle.capture_explain.specs.Capture.{CaptureEntry, IsCaptureFile, HasNoHeader, IsBrokenAt, IsOverLimit}
use Rattle.capture_explain.specs.declared.error.ExplainError.{ExplainError}
use Rattle.capture_explain.specs.declared.error.ExplainError.TheVariants as error
use Rattle.capture_explain.specs.Explained.{ReadsWhole, HasCause, Completes}
use Rattle.host_top.specs.declared.ending.Ending.{Ending}
use Rattle.host_top.specs.Ending.{status_of}
use Rattle.host_top.specs.Explain.{ending_explained, ReadsAs}
use Rattle.host_top.specs.HostMain.{IsNoCapture, IsDoneIfCapture}
use Rattle.host_top.specs.Status.{IsUnlessNoMemory}

-- the status of an explanation that was answered so
abbrev status_explained : Result (Unit {0}) ExplainError → ℕ
status_explained answer = status_of (ending_explained answer)

done_by : (max : ℕ) (left_old left_new : Option (List ℕ)) (faults_old faults_new : ℕ) (Tells : List CaptureEntry → Type 0) (answer : Result (Unit {0}) ExplainError)
    → OnOk answer (ReadsWhole max left_old left_new Tells) → OnOk answer (faults_new ≡ faults_old) → status_explained answer ≡ 0
    → ReadsWhole max left_old left_new Tells × (faults_new ≡ faults_old)
done_by max left_old left_new faults_old faults_new Tells (Ok _) explained quiet same = (explained, quiet)
done_by max left_old left_new faults_old faults_new Tells (Err error.Header) explained quiet same = absurd (omega (arith, same))
done_by max left_old left_new faults_old faults_new Tells (Err (error.Entry offset)) explained quiet same = absurd (omega (arith, same))
done_by max left_old left_new faults_old faults_new Tells (Err error.Limit) explained quiet same = absurd (omega (arith, same))
done_by max left_old left_new faults_old faults_new Tells (Err error.Read) explained quiet same = absurd (omega (arith, same))
done_by max left_old left_new faults_old faults_new Tells (Err error.NoMemory) explained quiet same = absurd (omega (arith, same))

pub explain_done : (max : ℕ) (left_old left_new : Option (List ℕ)) (faults_old faults_new : ℕ) (Tells : List CaptureEntry → Type 0) (ending : Ending)
    → ReadsAs max left_old left_new faults_old faults_new Tells ending → status_of ending ≡ 0 → ReadsWhole max left_old left_new Tells × (faults_new ≡ faults_old)
explain_done max left_old left_new faults_old faults_new Tells ending explains same =
    done_by max left_old left_new faults_old faults_new Tells explains.answer explains.whole explains.quiet (sym (ap status_of explains.ends) ∙ same)

headless : (max offset : ℕ) (left : Option (List ℕ)) → IfSome left HasNoHeader
    → IfSome left (IsNoCapture max)
headless max offset None none = tt
headless max offset (Some bytes) none = inl none

broken_there : (max offset : ℕ) (left : Option (List ℕ)) → IfSome left (λ bytes. IsBrokenAt max bytes offset)
    → IfSome left (IsNoCapture max)
broken_there max offset None broken = tt
broken_there max offset (Some bytes) broken = inr (offset, broken)

broken_by : (max : ℕ) (left_old : Option (List ℕ)) (faults_old faults_new : ℕ) (answer : Result (Unit {0}) ExplainError)
    → IfErr answer (HasCause max left_old faults_old faults_new) → status_explained answer ≡ 2
    → IfSome left_old (IsNoCapture max)
broken_by max left_old faults_old faults_new (Ok _) cause same = absurd (omega (arith, same))
broken_by max left_old faults_old faults_new (Err error.Header) cause same = headless max 0 left_old cause.0
broken_by max left_old faults_old faults_new (Err (error.Entry offset)) cause same = broken_there max offset left_old cause.0
broken_by max left_old faults_old faults_new (Err error.Limit) cause same = absurd (omega (arith, same))
broken_by max left_old faults_old faults_new (Err error.Read) cause same = absurd (omega (arith, same))
broken_by max left_old faults_old faults_new (Err error.NoMemory) cause same = absurd (omega (arith, same))

pub explain_broken : (max : ℕ) (left_old left_new : Option (List ℕ)) (faults_old faults_new : ℕ) (Tells : List CaptureEntry → Type 0) (ending : Ending)
    → ReadsAs max left_old left_new faults_old faults_new Tells ending → status_of ending ≡ 2
    → IfSome left_old (IsNoCapture max)
explain_broken max left_old left_new faults_old faults_new Tells ending explains same =
    broken_by max left_old faults_old faults_new explains.answer explains.cause (sym (ap status_of explains.ends) ∙ same)

long_by : (max : ℕ) (left_old : Option (List ℕ)) (faults_old faults_new : ℕ) (answer : Result (Unit {0}) ExplainError)
    → IfErr answer (HasCause max left_old faults_old faults_new) → status_explained answer ≡ 3 → IfSome left_old (IsOverLimit max)
long_by max left_old faults_old faults_new (Ok _) cause same = absurd (omega (arith, same))
long_by max left_old faults_old faults_new (Err error.Header) cause same = absurd (omega (arith, same))
long_by max left_old faults_old faults_new (Err (error.Entry offset)) cause same = absurd (omega (arith, same))
long_by max left_old faults_old faults_new (Err error.Limit) cause same = cause.0
long_by max left_old faults_old faults_new (Err error.Read) cause same = absurd (omega (arith, same))
long_by max left_old faults_old faults_new (Err error.NoMemory) cause same = absurd (omega (arith, same))

pub explain_long : (max : ℕ) (left_old left_new : Option (List ℕ)) (faults_old faults_new : ℕ) (Tells : List CaptureEntry → Type 0) (ending : Ending)
    → ReadsAs max left_old left_new faults_old faults_new Tells ending → status_of ending ≡ 3 → IfSome left_old (IsOverLimit max)
explain_long max left_old left_new faults_old faults_new Tells ending explains same =
    long_by max left_old faults_old faults_new explains.answer explains.cause (sym (ap status_of explains.ends) ∙ same)

read_by : (max : ℕ) (left_old : Option (List ℕ)) (faults_old faults_new : ℕ) (answer : Result (Unit {0}) ExplainError)
    → IfErr answer (HasCause max left_old faults_old faults_new) → status_explained answer ≡ 4 → IsRisen faults_old faults_new
read_by max left_old faults_old faults_new (Ok _) cause same = absurd (omega (arith, same))
read_by max left_old faults_old faults_new (Err error.Header) cause same = absurd (omega (arith, same))
read_by max left_old faults_old faults_new (Err (error.Entry offset)) cause same = absurd (omega (arith, same))
read_by max left_old faults_old faults_new (Err error.Limit) cause same = absurd (omega (arith, same))
read_by max left_old faults_old faults_new (Err error.Read) cause same = cause
read_by max left_old faults_old faults_new (Err error.NoMemory) cause same = absurd (omega (arith, same))

pub explain_read : (max : ℕ) (left_old left_new : Option (List ℕ)) (faults_old faults_new : ℕ) (Tells : List CaptureEntry → Type 0) (ending : Ending)
    → ReadsAs max left_old left_new faults_old faults_new Tells ending → status_of ending ≡ 4 → IsRisen faults_old faults_new
explain_read max left_old left_new faults_old faults_new Tells ending explains same =
    read_by max left_old faults_old faults_new explains.answer explains.cause (sym (ap status_of explains.ends) ∙ same)

-- no explanation has the status of refused words, or that of a capture that could not be written
unrefused_by : (answer : Result (Unit {0}) ExplainError) → status_explained answer ≡ 1 → ⊥
unrefused_by (Ok _) same = omega (arith, same)
unrefused_by (Err error.Header) same = omega (arith, same)
unrefused_by (Err (error.Entry offset)) same = omega (arith, same)
unrefused_by (Err error.Limit) same = omega (arith, same)
unrefused_by (Err error.Read) same = omega (arith, same)
unrefused_by (Err error.NoMemory) same = omega (arith, same)

pub explain_unrefused : (max : ℕ) (left_old left_new : Option (List ℕ)) (faults_old faults_new : ℕ) (Tells : List CaptureEntry → Type 0) (ending : Ending)
    → ReadsAs max left_old left_new faults_old faults_new Tells ending → status_of ending ≡ 1 → ⊥
explain_unrefused max left_old left_new faults_old faults_new Tells ending explains same = unrefused_by explains.answer (sym (ap status_of explains.ends) ∙ same)

uncaptured_by : (answer : Result (Unit {0}) ExplainError) → status_explained answer ≡ 5 → ⊥
uncaptured_by (Ok _) same = omega (arith, same)
uncaptured_by (Err error.Header) same = omega (arith, same)
uncaptured_by (Err (error.Entry offset)) same = omega (arith, same)
uncaptured_by (Err error.Limit) same = omega (arith, same)
uncaptured_by (Err error.Read) same = omega (arith, same)
uncaptured_by (Err error.NoMemory) same = omega (arith, same)

pub explain_uncaptured : (max : ℕ) (left_old left_new : Option (List ℕ)) (faults_old faults_new : ℕ) (Tells : List CaptureEntry → Type 0) (ending : Ending)
    → ReadsAs max left_old left_new faults_old faults_new Tells ending → status_of ending ≡ 5 → ⊥
explain_uncaptured max left_old left_new faults_old faults_new Tells ending explains same = uncaptured_by explains.answer (sym (ap status_of explains.ends) ∙ same)

-- an answer that is not Ok and not out of memory
abbrev refused_by : ExplainError → Result (Unit {0}) ExplainError
refused_by one = Err one

not_failed : (one : ExplainError) → IsOk (refused_by one) ⊎ IsErrOf (refused_by one) error.NoMemory
    → (refused_by one ≡ refused_by error.NoMemory → ⊥) → ⊥
not_failed one is other = ⊎_elim (λ (ok : IsOk (refused_by one)). absurd (cc (ok))) (λ (same : IsErrOf (refused_by one) error.NoMemory). other same) is

complete_by : (max : ℕ) (bytes : List ℕ) (faults_old faults_new result : ℕ) (answer : Result (Unit {0}) ExplainError) (entries : List CaptureEntry)
    → Completes max (Some bytes) faults_old faults_new answer → IfErr answer (HasCause max (Some bytes) faults_old faults_new)
    → (IsRisen faults_old faults_new → ⊥) → result ≡ status_explained answer
    → IsCaptureFile max bytes entries → IsUnlessNoMemory 0 result
complete_by max bytes faults_old faults_new result (Ok _) entries complete cause read is file = inl is
complete_by max bytes faults_old faults_new result (Err error.Header) entries complete cause read is file =
    absurd (not_failed error.Header (complete entries file read) (λ same. cc))
complete_by max bytes faults_old faults_new result (Err (error.Entry offset)) entries complete cause read is file =
    absurd (not_failed (error.Entry offset) (complete entries file read) (λ same. cc))
complete_by max bytes faults_old faults_new result (Err error.Limit) entries complete cause read is file =
    absurd (not_failed error.Limit (complete entries file read) (λ same. cc))
complete_by max bytes faults_old faults_new result (Err error.Read) entries complete cause read is file = absurd (read cause)
complete_by max bytes faults_old faults_new result (Err error.NoMemory) entries complete cause read is file = inr is

complete_in : (max : ℕ) (left_old : Option (List ℕ)) (faults_old faults_new result : ℕ) (answer : Result (Unit {0}) ExplainError)
    → Completes max left_old faults_old faults_new answer → IfErr answer (HasCause max left_old faults_old faults_new)
    → (IsRisen faults_old faults_new → ⊥) → result ≡ status_explained answer
    → IfSome left_old (IsDoneIfCapture max result)
complete_in max None faults_old faults_new result answer complete cause read is = tt
complete_in max (Some bytes) faults_old faults_new result answer complete cause read is = λ entries file.
    complete_by max bytes faults_old faults_new result answer entries complete cause read is file

pub explain_complete : (max : ℕ) (left_old left_new : Option (List ℕ)) (faults_old faults_new : ℕ) (Tells : List CaptureEntry → Type 0) (ending : Ending) (result : ℕ)
    → ReadsAs max left_old left_new faults_old faults_new Tells ending → result ≡ status_of ending → (IsRisen faults_old faults_new → ⊥)
    → IfSome left_old (IsDoneIfCapture max result)
explain_complete max left_old left_new faults_old faults_new Tells ending result explains is read =
    complete_in max left_old faults_old faults_new result explains.answer explains.complete explains.cause read
    (is ∙ ap status_of explains.ends)
