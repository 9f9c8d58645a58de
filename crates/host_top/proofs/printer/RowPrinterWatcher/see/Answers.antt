use Rattle.std.proofs.Common.{refl, arith}
use Rattle.host_top.specs.ReportText.{row_text}
use Rattle.host_top.proofs.PrintedLemmas.{prints_more}
use Rattle.host_top.proofs.printer.RowPrinterWatcher.see.Goals as goal

pub returns : goal.returns
returns g c = λ first rows prints.
    prints_more g.O.ByteSink row_text first c.args.self.now _ rows c.args.row.now c.put_row.new.out c.put_row.new.answer prints c.put_row.ensures
    c.flush.ensures refl (λ below. omega (arith, c.saturating_add-self.ensures, below))
