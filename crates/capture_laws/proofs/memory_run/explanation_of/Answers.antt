-- A capture file is refused for its number of entries alone.
use Rattle.std.proofs.Common.{◌≡◌, Some, subst, ◌∙◌}
use Rattle.std.proofs.lemmas.Result.{err_from_is_err_and}
use Rattle.script_source.specs.SureSource.{bytes_left}
use Rattle.capture_explain.specs.Explained.{HasCause}
use Rattle.capture_laws.proofs.MemoryLemmas.{accepted}
use Rattle.capture_laws.proofs.memory_run.explanation_of.Goals as goal

pub returns-in_err-explain-clause-accepted : goal.returns-in_err-explain-clause-accepted
returns-in_err-explain-clause-accepted c =
    let refused = err_from_is_err_and c.from_residual.result c.from_residual.ensures.1 in
    let bytes : bytes_left c.new-source.result ≡ c.args.capture.now = c.new-source.ensures ∙ c.in-Ok.ensures.items in
    rw (refused.1, refused.2)
    (accepted c.args.capture.now c.in_err-explain.field-0.0
    (subst (λ l. HasCause 100000 (Some l) 0 0 c.in_err-explain.field-0.0) bytes c.in_err-explain.ensures.cause))
