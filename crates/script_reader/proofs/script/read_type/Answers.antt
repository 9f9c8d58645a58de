-- The type stands in the buffer: it is one of addresses, or the part that is refused.
use Rattle.std.proofs.Common.{◌≡◌, inl, ⊎_elim, Ok, ap, ◌∙◌, refl, arith}
use Rattle.std.proofs.lemmas.Result.{err_from_is_err_and}
use Rattle.script_reader.specs.declared.script.ReadEventError.TheVariants.{Read}
use Rattle.script_reader.proofs.CutRestLemmas.{cut_type, wrong_type}
use Rattle.script_reader.proofs.script.read_type.Goals as goal

pub returns-in_err-fill-clause-err : goal.returns-in_err-fill-clause-err
returns-in_err-fill-clause-err g c =
    let left = g.S.ScriptSource.left in
    let refused = err_from_is_err_and c.from_residual.result c.from_residual.ensures.1 in
    let front = c.in_err-fill.ensures.failed in
    rw (refused.1, refused.2) (cut_type Read (left c.args.source.now) (left c.fill.new.source) front.0 (omega (arith, front.1)) front.2 (inl refl))

pub returns-in_default-clause-err : goal.returns-in_default-clause-err
returns-in_default-clause-err g c =
    let left = g.S.ScriptSource.left in
    let took = c.fill.ensures.full (c.in_ok-fill.was ∙ ap Ok c.if-not-branch.false) in
    wrong_type c.args.offset (left c.args.source.now) (left c.fill.new.source) c.fill.new.into c.from_be_bytes.result c.fill.auto.into c.fill.ensures.bytes
    c.from_be_bytes.ensures (omega arith)
    (⊎_elim (λ (is : c.from_be_bytes.result ≡ 1). omega (arith, is)) (λ (is : c.from_be_bytes.result ≡ 28). omega (arith, is))) took
