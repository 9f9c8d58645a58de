use Rattle.std.proofs.Common.{refl}
use Rattle.phy_layers.specs.PcapBytes.{global_header}
use Rattle.rule_examples.proofs.captures.capture_header.Goals as goal

pub returns : goal.returns
unfolding global_header
returns c = record {
  ethernet = refl;
  other = refl;
}
