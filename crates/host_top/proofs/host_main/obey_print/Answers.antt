use Rattle.std.proofs.Common.{ℕ, List, [], ◌++◌, append-nil, rules, subst}
use Rattle.phy_layers.specs.Sink.{Took}
use Rattle.host_top.specs.Ending.{last_line}
use Rattle.host_top.proofs.host_main.obey_print.Goals as goal

pub returns : goal.returns
returns g c =
    let found = c.print_named-ending.ensures in
    let P : List ℕ → Type 0 = λ l.
    Took g.O.ByteSink.bytes g.O.ByteSink.faults g.O.ByteSink.grows c.flush.new.answer l c.args.out.now c.flush.new.out in
    record {
      printed = (
        found.0,
        found.1,
        subst P (append-nil (found.0 ++ last_line c.print_named-ending.result))
            (c.flush.ensures.goes_on _ _ (c.put_last_line.ensures.goes_on _ _ (found.2.goes_on _ [] (search rules)))),
      );
    }
