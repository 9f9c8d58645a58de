-- The length and a front of the frame stand in the two buffers.
use Rattle.std.proofs.Common.{inl, inr, Ok, ap, ◌∙◌, refl, arith, length-take}
use Rattle.std.proofs.lemmas.Result.{err_from_is_err_and}
use Rattle.script_reader.specs.declared.script.ReadEventError.TheVariants.{Script, Read}
use Rattle.script_reader.proofs.CutRestLemmas.{cut_length, cut_frame}
use Rattle.script_reader.proofs.script.read_frame.Goals as goal

pub returns-in_err-fill-clause-err : goal.returns-in_err-fill-clause-err
returns-in_err-fill-clause-err g c =
    let left = g.S.ScriptSource.left in
    let refused = err_from_is_err_and c.from_residual.result c.from_residual.ensures.1 in
    let front = c.in_err-fill.ensures.failed in
    rw (refused.1, refused.2) (cut_length Read (left c.args.source.now) (left c.fill.new.source) front.0 (omega (arith, front.1)) front.2 (inl refl))

pub returns-in_err-fill-2-clause-err : goal.returns-in_err-fill-2-clause-err
returns-in_err-fill-2-clause-err g c =
    let left = g.S.ScriptSource.left in
    let refused = err_from_is_err_and c.from_residual-in_err-fill-2.result c.from_residual-in_err-fill-2.ensures.1 in
    let len = c.fill.ensures.full (c.in_ok-fill.was ∙ ap Ok c.if-not-branch.false) in
    let front = c.in_err-fill-2.ensures.failed in
    rw (refused.1, refused.2)
    (cut_frame Read (left c.args.source.now) (left c.fill.new.source) (left c.fill-2.new.source) c.fill.new.into front.0 c.from_be_bytes.result
    c.fill.auto.into c.fill.ensures.bytes c.from_be_bytes.ensures (omega arith) (omega (arith, front.1, length-take c.from-len.result c.args.into.now, c.from-len.ensures, c.requires.room)) len front.2 (inl refl))

pub returns-then-not-branch-2-clause-err : goal.returns-then-not-branch-2-clause-err
returns-then-not-branch-2-clause-err g c =
    let left = g.S.ScriptSource.left in
    let len = c.fill.ensures.full (c.in_ok-fill.was ∙ ap Ok c.if-not-branch.false) in
    let front = c.fill-2.ensures.short (c.in_ok-fill-2.was ∙ ap Ok c.if-not-branch-2.true) in
    cut_frame (Script c.args.offset) (left c.args.source.now) (left c.fill.new.source) (left c.fill-2.new.source) c.fill.new.into front.0
    c.from_be_bytes.result c.fill.auto.into c.fill.ensures.bytes c.from_be_bytes.ensures (omega arith) (omega (arith, front.1, length-take c.from-len.result c.args.into.now, c.from-len.ensures, c.requires.room)) len front.2
    (inr (c.args.offset, refl, front.3))
