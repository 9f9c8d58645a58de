-- The kind and the time stand in the two buffers: they are the head, or the part that is refused.
use Rattle.std.proofs.Common.{inl, inr, ⊎_elim, ℕ, List, [], ◌∷◌, ◌++◌, Ok, ap, sym, subst, ◌∙◌, arith}
use Rattle.std.specs.Io.KnownBytes.{Consumes}
use Rattle.std.proofs.lemmas.Nat.{be_bytes_8}
use Rattle.std.proofs.lemmas.Result.{err_from_is_err_and}
use Rattle.script_reader.specs.Head.{byte_of}
use Rattle.script_reader.proofs.ReadingLemmas.{kind_and_time, in_kind, in_time, wrong_time}
use Rattle.script_reader.proofs.script.read_head.Goals as goal

pub returns-in_err-fill-clause-err : goal.returns-in_err-fill-clause-err
returns-in_err-fill-clause-err g c =
    let refused = err_from_is_err_and c.from_residual.result c.from_residual.ensures.1 in
    let front = c.in_err-fill.ensures.failed in
    rw (refused.1, refused.2) (record {
      part = front.0;
      took = front.2;
      ends = in_kind c.args.last_micros front.0 (omega (arith, front.1));
      tried = λ is some. absurd (omega (arith, some, front.1));
    })

pub returns-in_err-fill-2-clause-err : goal.returns-in_err-fill-2-clause-err
returns-in_err-fill-2-clause-err g c =
    let left = g.S.ScriptSource.left in
    let refused = err_from_is_err_and c.from_residual-in_err-fill-2.result c.from_residual-in_err-fill-2.ensures.1 in
    let front = c.in_err-fill-2.ensures.failed in
    let kind = c.fill.ensures.full (c.in_ok-fill.was ∙ ap Ok c.if-not-branch.false) in
    rw (refused.1, refused.2) (record {
      part = byte_of c.in-Some.kind ∷ [] ++ front.0;
      took = kind_and_time (left c.args.source.now) (left c.fill.new.source) (left c.fill-2.new.source) c.fill.new.into front.0 (byte_of c.in-Some.kind)
          c.fill.auto.into c.in-Some.ensures.found kind front.2;
      ends = in_time c.args.last_micros c.in-Some.kind front.0 (omega (arith, front.1));
      tried = λ is some. c.if-is_full.false;
    })

pub returns-then-not-branch-2-clause-err : goal.returns-then-not-branch-2-clause-err
returns-then-not-branch-2-clause-err g c =
    let left = g.S.ScriptSource.left in
    let kind = c.fill.ensures.full (c.in_ok-fill.was ∙ ap Ok c.if-not-branch.false) in
    let front = c.fill-2.ensures.short (c.in_ok-fill-2.was ∙ ap Ok c.if-not-branch-2.true) in
    record {
      part = byte_of c.in-Some.kind ∷ [] ++ front.0;
      took = kind_and_time (left c.args.source.now) (left c.fill.new.source) (left c.fill-2.new.source) c.fill.new.into front.0 (byte_of c.in-Some.kind)
          c.fill.auto.into c.in-Some.ensures.found kind front.2;
      ends = inr (record { some = omega arith; inside = in_time c.args.last_micros c.in-Some.kind front.0 (omega (arith, front.1)); at_end = front.3 });
      tried = λ is some. c.if-is_full.false;
    }

pub returns-then-micros-last_micros-clause-err : goal.returns-then-micros-last_micros-clause-err
returns-then-micros-last_micros-clause-err g c =
    let left = g.S.ScriptSource.left in
    let kind = c.fill.ensures.full (c.in_ok-fill.was ∙ ap Ok c.if-not-branch.false) in
    let time = c.fill-2.ensures.full (c.in_ok-fill-2.was ∙ ap Ok c.if-not-branch-2.false) in
    record {
      part = byte_of c.in-Some.kind ∷ [] ++ c.fill-2.new.into;
      took = kind_and_time (left c.args.source.now) (left c.fill.new.source) (left c.fill-2.new.source) c.fill.new.into c.fill-2.new.into
          (byte_of c.in-Some.kind) c.fill.auto.into c.in-Some.ensures.found kind time;
      ends = inl (wrong_time c.args.last_micros c.from_be_bytes-micros.result c.in-Some.kind c.fill-2.new.into c.fill-2.auto.into c.fill-2.ensures.bytes
          c.from_be_bytes-micros.ensures (omega arith)
          (⊎_elim (λ early. inl early) (λ late. inr late.1) c.then-micros-last_micros.either));
      tried = λ is some. c.if-is_full.false;
    }

pub returns-clause-found : goal.returns-clause-found
returns-clause-found g c =
    let left = g.S.ScriptSource.left in
    let kind = c.fill.ensures.full (c.in_ok-fill.was ∙ ap Ok c.if-not-branch.false) in
    let time = c.fill-2.ensures.full (c.in_ok-fill-2.was ∙ ap Ok c.if-not-branch-2.false) in
    let P : List ℕ → Type 0 = λ l. Consumes (left c.args.source.now) (left c.fill-2.new.source) (byte_of c.in-Some.kind ∷ [] ++ l) in
    let bytes = be_bytes_8 c.fill-2.new.into c.from_be_bytes-micros.result c.fill-2.auto.into c.fill-2.ensures.bytes c.from_be_bytes-micros.ensures in (
      c.if-is_full.false,
      record {
        right = (c.if-micros-last_micros.false, c.if-micros-ge-TIME_LIMIT.false);
        took = subst P (sym bytes)
            (kind_and_time (left c.args.source.now) (left c.fill.new.source) (left c.fill-2.new.source) c.fill.new.into c.fill-2.new.into
            (byte_of c.in-Some.kind) c.fill.auto.into c.in-Some.ensures.found kind time);
      },
    )
