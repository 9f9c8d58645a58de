use Rattle.std.proofs.Common.{refl}
use Rattle.run_examples.proofs.runs.run_numbers.Goals as goal

pub returns : goal.returns
returns c = record {
  limit = refl;
  first = refl;
  next = refl;
}
