-- A run without a cause to stop ends well.
use Rattle.std.proofs.Common.{ℕ, inl, inr, List, Option, Some, None, Result, Ok, Err, IfErr, refl, arith}
use Rattle.host_model.proofs.ClassLemmas.{not_over, not_broken, front_no_longer}
use Rattle.net_host.specs.declared.run_script.RunError.{RunError}
use Rattle.net_host.specs.declared.run_script.RunError.TheVariants.{Script, Limit, Words, Read, Sink, NoMemory}
use Rattle.net_host.specs.Outside.{Outside}
use Rattle.net_host.specs.Run.{Task, HasCause, Completes}

-- what a source leaves to be read, with the rest of the outside
abbrev beside : Outside → Option (List ℕ) → Outside
beside before left = record before { left = left }

by_cause : (task : Task) (rest after : Outside) (left : Option (List ℕ)) (result : Result (Unit {0}) RunError)
    → IfErr result (HasCause task (beside rest left) after) → Completes task (beside rest left) after result
by_cause task rest after None result cause = tt
by_cause task rest after (Some bytes) (Ok done) cause = λ events script enough read_quiet capture_quiet. inl refl
by_cause task rest after (Some bytes) (Err (Script offset)) cause = λ events script enough read_quiet capture_quiet.
    absurd (not_broken task.max bytes offset events script cause.0)
by_cause task rest after (Some bytes) (Err Limit) cause = λ events script enough read_quiet capture_quiet.
    absurd (not_over task.max bytes events script cause.0)
by_cause task rest after (Some bytes) (Err Words) cause = λ events script enough read_quiet capture_quiet.
    let few = cause.0 in
    absurd (omega (arith, front_no_longer task.max bytes few.read.0 few.read.1 events few.events script few.read.2, few.short, enough))
by_cause task rest after (Some bytes) (Err Read) cause = λ events script enough read_quiet capture_quiet. absurd (read_quiet cause.0)
by_cause task rest after (Some bytes) (Err Sink) cause = λ events script enough read_quiet capture_quiet. absurd (capture_quiet cause.0)
by_cause task rest after (Some bytes) (Err NoMemory) cause = λ events script enough read_quiet capture_quiet. inr refl

pub completes : (task : Task) (before after : Outside) (result : Result (Unit {0}) RunError)
    → IfErr result (HasCause task before after) → Completes task before after result
completes task before after result cause = by_cause task before after before.left result cause
