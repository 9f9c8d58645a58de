use Rattle.std.proofs.Common.{refl}
use Rattle.net_wire.specs.DhcpOptions.{items_within}
use Rattle.rule_examples.proofs.options.options_by_example.Goals as goal

pub returns : goal.returns
unfolding items_within
returns c = record {
  items = refl;
  cut_short = refl;
  last = refl;
}
