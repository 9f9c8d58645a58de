use Rattle.std.proofs.Common.{refl}
use Rattle.net_wire.specs.DhcpBytes.{header_bytes, message_bytes, options_bytes}
use Rattle.net_wire.specs.DhcpOptions.{items_within}
use Rattle.rule_examples.proofs.options.messages_by_example.Goals as goal

pub returns : goal.returns
unfolding message_bytes header_bytes options_bytes items_within
returns c = record {
  written = refl;
  read = refl;
}
