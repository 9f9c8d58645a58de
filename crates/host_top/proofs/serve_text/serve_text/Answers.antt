use Rattle.std.proofs.Common.{ℕ, List, arith, subst}
use Rattle.phy_layers.specs.Sink.{Took}
use Rattle.host_top.specs.ServeText.{served_text}
use Rattle.host_top.proofs.TextLemmas.{rows_more, served_whole}
use Rattle.host_top.proofs.serve_text.serve_text.Goals as goal

pub loop-row-preserved : goal.loop-row-preserved
loop-row-preserved g c =
    let P : List ℕ → Type 0 = λ l.
    Took g.O.ByteSink.bytes g.O.ByteSink.faults g.O.ByteSink.grows c.put_served.new.answer l c.args.out.now c.put_served.new.out in
    record {
      counted = omega arith;
      took = subst P
          (rows_more served_text c.rows-row-items.result.now c.loop-row.row-index c.loop-row.number c.row-item.result (omega arith) c.row-item.is
          c.loop-row.invariant.counted) (c.put_served.ensures.goes_on _ _ c.loop-row.invariant.took);
    }

pub returns : goal.returns
returns g c =
    let P : List ℕ → Type 0 = λ l.
    Took g.O.ByteSink.bytes g.O.ByteSink.faults g.O.ByteSink.grows c.loop-row.answer l c.args.out.now c.loop-row.out in
    subst P (served_whole c.args.report.now c.rows-row-items.result.now c.loop-row.row-index c.rows-row-items.ensures (omega arith))
    c.loop-row.invariant.took
