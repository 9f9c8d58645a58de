-- A row more was put.
use Rattle.std.proofs.Common.{ℕ, List, arith, subst}
use Rattle.phy_layers.specs.Sink.{Took}
use Rattle.capture_explain.specs.ExplainText.{row_text}
use Rattle.capture_explain.proofs.TextLemmas.{rows_more, text_whole}
use Rattle.capture_explain.proofs.row_text.explain_text.Goals as goal

pub loop-row-preserved : goal.loop-row-preserved
loop-row-preserved g c =
    let P : List ℕ → Type 0 = λ l.
    Took g.O.ByteSink.bytes g.O.ByteSink.faults g.O.ByteSink.grows c.put_row.new.answer l c.args.out.now c.put_row.new.out in
    record {
      counted = omega arith;
      took = subst P
          (rows_more row_text c.rows-row-items.result.now c.loop-row.row-index c.loop-row.number c.row-item.result (omega arith) c.row-item.is
          c.loop-row.invariant.counted) (c.put_row.ensures.goes_on _ _ c.loop-row.invariant.took);
    }

pub returns : goal.returns
returns g c =
    let P : List ℕ → Type 0 = λ l.
    Took g.O.ByteSink.bytes g.O.ByteSink.faults g.O.ByteSink.grows c.loop-row.answer l c.args.out.now c.loop-row.out in
    record {
      text = subst P (text_whole c.args.explanation.now c.rows-row-items.result.now c.loop-row.row-index c.rows-row-items.ensures.value (omega arith))
          c.loop-row.invariant.took;
    }
