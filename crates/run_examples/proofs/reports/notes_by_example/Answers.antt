use Rattle.std.proofs.Common.{refl}
use Rattle.run_examples.proofs.reports.notes_by_example.Goals as goal

pub returns : goal.returns
returns c = record {
  nets = refl;
  transports = refl;
  stops = refl;
}
