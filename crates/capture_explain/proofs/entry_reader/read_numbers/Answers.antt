-- The numbers stand in two buffers.
use Rattle.std.proofs.Common.{inl, inr, Ok, ◌∷◌, get_or, ap, ◌∙◌, arith}
use Rattle.std.proofs.lemmas.Result.{err_from_is_err_and}
use Rattle.capture_explain.proofs.ReadingLemmas.{first_and_rest}
use Rattle.capture_explain.proofs.entry_reader.read_numbers.Goals as goal

pub returns-in_err-fill-2-clause-err : goal.returns-in_err-fill-2-clause-err
returns-in_err-fill-2-clause-err g c =
    let left = g.S.ScriptSource.left in
    let refused = err_from_is_err_and c.from_residual-in_err-fill-2.result c.from_residual-in_err-fill-2.ensures.1 in
    let front = c.in_err-fill-2.ensures.failed in
    let first = c.fill.ensures.full (c.in_ok-fill.was ∙ ap Ok c.if-not-branch.false) in
    rw (refused.1, refused.2) (record {
      part = get_or c.fill.new.into 0 0 ∷ front.0;
      took = first_and_rest (left c.args.source.now) (left c.fill.new.source) (left c.fill-2.new.source) c.fill.new.into front.0
          c.fill.auto.into first front.2;
      ends = inl (omega (arith, front.1));
      tried = λ is some. c.if-is_full.false;
    })

pub returns-then-not-branch-2-clause-err : goal.returns-then-not-branch-2-clause-err
returns-then-not-branch-2-clause-err g c =
    let left = g.S.ScriptSource.left in
    let front = c.fill-2.ensures.short (c.in_ok-fill-2.was ∙ ap Ok c.if-not-branch-2.true) in
    let first = c.fill.ensures.full (c.in_ok-fill.was ∙ ap Ok c.if-not-branch.false) in
    record {
      part = get_or c.fill.new.into 0 0 ∷ front.0;
      took = first_and_rest (left c.args.source.now) (left c.fill.new.source) (left c.fill-2.new.source) c.fill.new.into front.0
          c.fill.auto.into first front.2;
      ends = (omega arith, inr (inl (omega (arith, front.1)), front.3));
      tried = λ is some. c.if-is_full.false;
    }

pub returns-then-numbers-gt-FRAME_LEN-clause-err : goal.returns-then-numbers-gt-FRAME_LEN-clause-err
returns-then-numbers-gt-FRAME_LEN-clause-err g c =
    let left = g.S.ScriptSource.left in
    let first = c.fill.ensures.full (c.in_ok-fill.was ∙ ap Ok c.if-not-branch.false) in
    let rest = c.fill-2.ensures.full (c.in_ok-fill-2.was ∙ ap Ok c.if-not-branch-2.false) in
    let head = c.numbers_of-numbers.result in
    record {
      part = get_or c.fill.new.into 0 0 ∷ c.fill-2.new.into;
      took = first_and_rest (left c.args.source.now) (left c.fill.new.source) (left c.fill-2.new.source) c.fill.new.into c.fill-2.new.into
          c.fill.auto.into first rest;
      ends = (
        omega arith,
        inl (record {
          secs = head.secs;
          micros = head.micros;
          captured = head.captured;
          told = head.length;
          fits = omega arith;
          whole = c.numbers_of-numbers.ensures;
          wrong = omega (arith, c.if-numbers-gt-FRAME_LEN.true);
        }),
      );
      tried = λ is some. c.if-is_full.false;
    }
