use Rattle.std.proofs.Common.{refl}
use Rattle.net_wire.specs.DhcpOptions.{items_within}
use Rattle.rule_examples.proofs.options.servers_by_example.Goals as goal

pub returns : goal.returns
unfolding items_within
returns c = record {
  five = refl;
  no_multiple = refl;
  padded = refl;
  behind_end = refl;
  cut_short = refl;
}
