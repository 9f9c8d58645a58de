use Rattle.std.proofs.Common.{refl}
use Rattle.net_wire.specs.DhcpOptions.{items_within}
use Rattle.rule_examples.proofs.options.flags_by_example.Goals as goal

pub returns : goal.returns
unfolding items_within
returns c = record {
  first = refl;
  last = refl;
  other_hardware = refl;
  other_length = refl;
  other_cookie = refl;
  other_op = refl;
}
