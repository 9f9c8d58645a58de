use Rattle.std.proofs.Common.{refl}
use Rattle.host_top.specs.ReportText.{report_bytes}
use Rattle.net_wire.specs.Pretty.{hex_pair}
use Rattle.std.specs.Fmt.{digits}
use Rattle.run_examples.proofs.reports.reports_by_example.Goals as goal

pub returns : goal.returns
unfolding report_bytes digits hex_pair
returns c = record {
  none = refl;
  frame = refl;
  refused = refl;
  ended = refl;
}
