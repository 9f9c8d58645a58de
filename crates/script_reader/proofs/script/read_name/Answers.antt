-- The length and a front of the name stand in the two buffers.
use Rattle.std.proofs.Common.{◌≡◌, inl, inr, Ok, length, ap, sym, subst, ◌∙◌, refl, arith, length-take}
use Rattle.std.specs.Str.{IsUtf8}
use Rattle.std.proofs.lemmas.List.{take_at}
use Rattle.std.proofs.lemmas.Result.{err_from_is_err_and}
use Rattle.script_reader.specs.declared.script.ReadEventError.TheVariants.{Script, Read}
use Rattle.script_reader.proofs.CutRestLemmas.{cut_name_length, cut_name, wrong_name}
use Rattle.script_reader.proofs.script.read_name.Goals as goal

pub returns-in_err-fill-clause-err : goal.returns-in_err-fill-clause-err
returns-in_err-fill-clause-err g c =
    let left = g.S.ScriptSource.left in
    let refused = err_from_is_err_and c.from_residual.result c.from_residual.ensures.1 in
    let front = c.in_err-fill.ensures.failed in
    rw (refused.1, refused.2) (cut_name_length Read (left c.args.source.now) (left c.fill.new.source) front.0 (omega (arith, front.1)) front.2 (inl refl))

pub returns-then-not-branch-clause-err : goal.returns-then-not-branch-clause-err
returns-then-not-branch-clause-err g c =
    let left = g.S.ScriptSource.left in
    let front = c.fill.ensures.short (c.in_ok-fill.was ∙ ap Ok c.if-not-branch.true) in
    cut_name_length (Script c.args.offset) (left c.args.source.now) (left c.fill.new.source) front.0 (omega (arith, front.1)) front.2
    (inr (c.args.offset, refl, front.3))

pub returns-in_err-fill-2-clause-err : goal.returns-in_err-fill-2-clause-err
returns-in_err-fill-2-clause-err g c =
    let left = g.S.ScriptSource.left in
    let refused = err_from_is_err_and c.from_residual-in_err-fill-2.result c.from_residual-in_err-fill-2.ensures.1 in
    let len = c.fill.ensures.full (c.in_ok-fill.was ∙ ap Ok c.if-not-branch.false) in
    let front = c.in_err-fill-2.ensures.failed in
    rw (refused.1, refused.2)
    (cut_name Read (left c.args.source.now) (left c.fill.new.source) (left c.fill-2.new.source) c.fill.new.into front.0 c.from-len.result
    c.fill.auto.into (omega arith) (omega arith) (omega (arith, front.1, length-take c.from-len.result c.args.into.now, c.requires.room)) len front.2 (inl refl))

pub returns-then-not-branch-2-clause-err : goal.returns-then-not-branch-2-clause-err
returns-then-not-branch-2-clause-err g c =
    let left = g.S.ScriptSource.left in
    let len = c.fill.ensures.full (c.in_ok-fill.was ∙ ap Ok c.if-not-branch.false) in
    let front = c.fill-2.ensures.short (c.in_ok-fill-2.was ∙ ap Ok c.if-not-branch-2.true) in
    cut_name (Script c.args.offset) (left c.args.source.now) (left c.fill.new.source) (left c.fill-2.new.source) c.fill.new.into front.0 c.from-len.result
    c.fill.auto.into (omega arith) (omega arith) (omega (arith, front.1, length-take c.from-len.result c.args.into.now, c.requires.room)) len front.2
    (inr (c.args.offset, refl, front.3))

pub returns-in-Err-clause-err : goal.returns-in-Err-clause-err
returns-in-Err-clause-err g c =
    let left = g.S.ScriptSource.left in
    let len = c.fill.ensures.full (c.in_ok-fill.was ∙ ap Ok c.if-not-branch.false) in
    let name = c.fill-2.ensures.full (c.in_ok-fill-2.was ∙ ap Ok c.if-not-branch-2.false) in
    let is_long : length c.fill-2.new.into ≡ c.from-len.result =
    omega (arith, c.fill-2.auto.into, length-take c.from-len.result c.args.into.now, c.requires.room) in
    wrong_name c.args.offset (left c.args.source.now) (left c.fill.new.source) (left c.fill-2.new.source) c.fill.new.into c.fill-2.new.into c.from-len.result
    c.fill.auto.into (omega arith) (omega arith) is_long
    (λ text. c.in-Err.ensures.cases.0 (subst IsUtf8 (sym (take_at c.fill-2.new.into _ c.from-len.result is_long)) text)) len name
