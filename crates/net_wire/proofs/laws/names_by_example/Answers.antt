use Rattle.std.proofs.Common.{refl}
use Rattle.net_wire.specs.DnsName.{labels_within, name_len_within}
use Rattle.net_wire.proofs.laws.names_by_example.Goals as goal

pub returns : goal.returns
unfolding labels_within name_len_within
returns c = record {
  foo = refl;
  arpa = refl;
  root = refl;
  forward = refl;
  later_down = refl;
  later_up = refl;
  itself = refl;
  outside = refl;
  passes = refl;
  longest = refl;
  too_long = refl;
  reserved = refl;
  highest = refl;
  without_end = refl;
  in_place = refl;
}
