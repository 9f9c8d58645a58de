use Rattle.std.proofs.Common.{refl}
use Rattle.phy_layers.specs.PcapBytes.{packet_record, record_header}
use Rattle.rule_examples.proofs.captures.capture_records.Goals as goal

pub returns : goal.returns
unfolding record_header packet_record
returns c = record {
  header = refl;
  last_micros = refl;
  whole = refl;
  cut = refl;
  packet = refl;
  before_zero = refl;
}
