-- What the run captured is a file, and its explanation is that of the run's entries.
use Rattle.std.proofs.Common.{◌≡◌, Some, length, ap, sym, subst, arith}
use Rattle.std.proofs.lemmas.Result.{err_from_is_err_and}
use Rattle.phy_layers.specs.MemorySink.{SinkState}
use Rattle.capture_explain.specs.declared.error.ExplainError.{ExplainError}
use Rattle.host_model.specs.Sizes.{HasSix}
use Rattle.capture_laws.specs.Explained.{IsLimitOrMemory}
use Rattle.capture_laws.proofs.MemoryLemmas.{captured_file, explained}
use Rattle.capture_laws.proofs.memory_run.explained_run.Goals as goal

pub returns-in_err-explanation-clause-accepted : goal.returns-in_err-explanation-clause-accepted
returns-in_err-explanation-clause-accepted c =
    let refused = err_from_is_err_and c.from_residual-in_err-explanation.result c.from_residual-in_err-explanation.ensures.1 in
    let finished = c.in_ok-run.ensures.finished in
    let long : length c.hardware-hardware.result.0 ≡ 6 = omega (arith, c.hardware-hardware.type_inv) in
    let six : HasSix c.args.config.now.hardware = subst HasSix c.hardware-hardware.ensures.value long in
    let file = captured_file c.args.config.now c.args.words.now c.args.script.items c.bytes.result.now _ _ c.run.new.report
    c.hardware-hardware.ensures.runs six (ap (λ l. Some l) c.new-source.ensures)
    (ap (λ (s : SinkState). Some s.bytes) c.in_ok-capture.ensures.value) (ap (λ l. Some l) (sym c.bytes.ensures.value)) finished in
    rw (refused.1, refused.2) (λ error same.
    let is : c.in_err-explanation.field-0.0 ≡ error = cc in
    subst IsLimitOrMemory is (c.in_err-explanation.ensures.accepted _ _ file))

pub returns-clause-explained : goal.returns-clause-explained
returns-clause-explained c =
    let told = c.in_ok-explanation.ensures.explained in
    let finished = c.in_ok-run.ensures.finished in
    let long : length c.hardware-hardware.result.0 ≡ 6 = omega (arith, c.hardware-hardware.type_inv) in
    let six : HasSix c.args.config.now.hardware = subst HasSix c.hardware-hardware.ensures.value long in
    explained c.args.config.now c.args.words.now c.args.script.items c.bytes.result.now _ _ c.run.new.report
    c.hardware-hardware.ensures.runs six (ap (λ l. Some l) c.new-source.ensures)
    (ap (λ (s : SinkState). Some s.bytes) c.in_ok-capture.ensures.value) (ap (λ l. Some l) (sym c.bytes.ensures.value)) finished
    c.in_ok-explanation.explanation told.0 told.1 told.2
