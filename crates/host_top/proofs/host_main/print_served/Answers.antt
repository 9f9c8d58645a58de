use Rattle.std.proofs.Common.{ℕ, List, append-nil, subst}
use Rattle.phy_layers.specs.Sink.{Took}
use Rattle.host_top.proofs.host_main.print_served.Goals as goal

pub returns : goal.returns
returns g c =
    let P : List ℕ → Type 0 = λ l.
    Took g.O.ByteSink.bytes g.O.ByteSink.faults g.O.ByteSink.grows c.flush.new.answer l c.args.out.now c.flush.new.out in
    subst P (append-nil _) (c.flush.ensures.goes_on _ _ (c.put_last_line.ensures.goes_on _ _ c.serve_text-answer.ensures))
