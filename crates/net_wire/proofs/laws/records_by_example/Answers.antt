use Rattle.std.proofs.Common.{refl}
use Rattle.net_wire.specs.DnsName.{name_len_within}
use Rattle.net_wire.proofs.laws.records_by_example.Goals as goal

pub returns : goal.returns
unfolding name_len_within
returns c = record {
  question = refl;
  other_class = refl;
  alias = refl;
  byte_behind = refl;
  short_address = refl;
  too_few = refl;
}
