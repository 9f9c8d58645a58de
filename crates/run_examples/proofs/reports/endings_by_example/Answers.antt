use Rattle.std.proofs.Common.{refl}
use Rattle.std.specs.Fmt.{digits}
use Rattle.run_examples.proofs.reports.endings_by_example.Goals as goal

pub returns : goal.returns
unfolding digits
returns c = record {
  statuses = refl;
  replaced = refl;
  lines = refl;
}
