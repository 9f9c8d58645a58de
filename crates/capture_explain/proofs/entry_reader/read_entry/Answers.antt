-- The frame stands in the buffer behind its numbers.
use Rattle.std.proofs.Common.{inr, Ok, ◌++◌, ap, ◌∙◌, refl, arith, length-take}
use Rattle.std.proofs.KnownBytes.{Consumes-trans}
use Rattle.std.proofs.lemmas.Result.{err_from_is_err_and}
use Rattle.capture_explain.specs.Reading.{head_bytes}
use Rattle.capture_explain.proofs.entry_reader.read_entry.Goals as goal

pub returns-in_err-fill-clause-err : goal.returns-in_err-fill-clause-err
returns-in_err-fill-clause-err g c =
    let left = g.S.ScriptSource.left in
    let refused = err_from_is_err_and c.from_residual-in_err-fill.result c.from_residual-in_err-fill.ensures.1 in
    let front = c.in_err-fill.ensures.failed in
    let head = c.in-Some.head in
    let found = rw c.in-Some.is at c.in_ok-head.ensures.found in
    rw (refused.1, refused.2) (record {
      part = head_bytes head ++ front.0;
      took = Consumes-trans (left c.args.source.now) (left c.read_numbers.new.source) (left c.fill.new.source) (head_bytes head) front.0
          found.1.took front.2;
      ends = inr (record {
        secs = head.secs;
        micros = head.micros;
        captured = head.captured;
        told = head.length;
        front = front.0;
        within = found.1.within;
        whole = refl;
        short = omega (arith, front.1, length-take head.captured c.args.frame.now);
      });
      tried = λ is some. found.0;
    })

pub returns-then-not-branch-clause-err : goal.returns-then-not-branch-clause-err
returns-then-not-branch-clause-err g c =
    let left = g.S.ScriptSource.left in
    let front = c.fill.ensures.short (c.in_ok-fill.was ∙ ap Ok c.if-not-branch.true) in
    let head = c.in-Some.head in
    let found = rw c.in-Some.is at c.in_ok-head.ensures.found in
    record {
      part = head_bytes head ++ front.0;
      took = Consumes-trans (left c.args.source.now) (left c.read_numbers.new.source) (left c.fill.new.source) (head_bytes head) front.0
          found.1.took front.2;
      ends = (
        omega arith,
        inr (
          inr (record {
            secs = head.secs;
            micros = head.micros;
            captured = head.captured;
            told = head.length;
            front = front.0;
            within = found.1.within;
            whole = refl;
            short = omega (arith, front.1, length-take head.captured c.args.frame.now);
          }),
          front.3,
        ),
      );
      tried = λ is some. found.0;
    }
