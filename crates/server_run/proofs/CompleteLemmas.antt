-- A run without a cause to stop ends well.
use Rattle.std.proofs.Common.{◌≡◌, ℕ, ◌⊎◌, inl, inr, ⊎_elim, sym, subst, ◌∙◌, List, Option, Some, None, Result, Ok, Err, IfErr, refl}
use Rattle.host_model.proofs.ClassLemmas.{not_over, not_broken}
use Rattle.wire_base.specs.Causes.{IsRisen}
use Rattle.net_host.specs.Outside.{Outside, IsQuiet}
use Rattle.server_run.specs.declared.serve_error.ServeError.{ServeError}
use Rattle.server_run.specs.declared.serve_error.ServeError.TheVariants.{Script, Limit, Read, Sink, NoMemory}
use Rattle.server_run.specs.Served.{Completes, HasCause}

-- what a source leaves to be read, with the rest of the outside
abbrev beside : Outside → Option (List ℕ) → Outside
beside before left = record before { left = left }

by_cause : (max : ℕ) (rest after : Outside) (left : Option (List ℕ)) (result : Result (Unit {0}) ServeError)
    → IfErr result (HasCause max (beside rest left) after) → Completes max (beside rest left) after result
by_cause max rest after None result cause = tt
by_cause max rest after (Some bytes) (Ok done) cause = λ events script read_quiet capture_quiet. inl refl
by_cause max rest after (Some bytes) (Err (Script offset)) cause = λ events script read_quiet capture_quiet.
    absurd (not_broken max bytes offset events script cause.0)
by_cause max rest after (Some bytes) (Err Limit) cause = λ events script read_quiet capture_quiet.
    absurd (not_over max bytes events script cause.0)
by_cause max rest after (Some bytes) (Err Read) cause = λ events script read_quiet capture_quiet. absurd (read_quiet cause.0)
by_cause max rest after (Some bytes) (Err Sink) cause = λ events script read_quiet capture_quiet. absurd (capture_quiet cause.0)
by_cause max rest after (Some bytes) (Err NoMemory) cause = λ events script read_quiet capture_quiet. inr refl

pub completes : (max : ℕ) (before after : Outside) (result : Result (Unit {0}) ServeError)
    → IfErr result (HasCause max before after) → Completes max before after result
completes max before after result cause = by_cause max before after before.left result cause

-- the cause of a run that stopped inside an event
pub taking_cause : (max : ℕ) (before now after : Outside) (error : ServeError) → IsQuiet before now → after.read_faults ≡ now.read_faults
    → (error ≡ Sink) ⊎ (error ≡ NoMemory) → (error ≡ Sink → IsRisen now.capture_faults after.capture_faults)
    → ((error ≡ Sink → ⊥) → after.capture_faults ≡ now.capture_faults) → HasCause max before after error
taking_cause max before now after error quiet source cause risen same =
    let P : ServeError → Type 0 = HasCause max before after in
    let C : ℕ → Type 0 = λ count. IsRisen count after.capture_faults in
    ⊎_elim
    (λ (is_sink : error ≡ Sink). subst P (sym is_sink) (subst C quiet.capture (risen is_sink), source ∙ quiet.source))
    (λ (is_memory : error ≡ NoMemory). subst P (sym is_memory) (record {
      source = source ∙ quiet.source;
      capture = same (λ (is_sink : error ≡ Sink). let clash : Sink ≡ NoMemory = sym is_sink ∙ is_memory in cc) ∙ quiet.capture;
    }))
    cause
