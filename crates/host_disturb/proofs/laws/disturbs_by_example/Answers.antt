use Rattle.host_disturb.proofs.ExampleLemmas as examples
use Rattle.host_disturb.proofs.laws.disturbs_by_example.Goals as goal

pub returns : goal.returns
returns c = record {
  drops = examples.drops;
  flips = examples.flips;
  limits = examples.limits;
  rates = examples.rates;
  draws = examples.draws;
}
