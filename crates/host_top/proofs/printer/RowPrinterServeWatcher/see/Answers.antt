use Rattle.std.proofs.Common.{refl, arith}
use Rattle.host_top.specs.ServeText.{served_text}
use Rattle.host_top.proofs.PrintedLemmas.{prints_more}
use Rattle.host_top.proofs.printer.RowPrinterServeWatcher.see.Goals as goal

pub returns : goal.returns
returns g c = λ first rows prints.
    prints_more g.O.ByteSink served_text first c.args.self.now _ rows c.args.row.now c.put_served.new.out c.put_served.new.answer prints c.put_served.ensures
    c.flush.ensures refl (λ below. omega (arith, c.saturating_add-self.ensures, below))
