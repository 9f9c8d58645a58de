use Rattle.std.proofs.Common.{refl}
use Rattle.net_wire.specs.Datagram.{pseudo_header}
use Rattle.net_wire.proofs.laws.datagrams_by_example.Goals as goal

pub returns : goal.returns
unfolding pseudo_header
returns c = record {
  carried = refl;
  to_other = refl;
  to_group = refl;
  tagged = refl;
  no_sum = refl;
  wrong_sum = refl;
  wrong_header = refl;
  no_header_sum = refl;
  all_ones = refl;
  other_version = refl;
  short_header = refl;
  other_protocol = refl;
  more_fragments = refl;
  an_offset = refl;
  not_to_fragment = refl;
  reserved = refl;
  from_group = refl;
  from_nobody = refl;
  from_nobody_yet = refl;
  from_a_host_then = refl;
  from_group_then = refl;
  padded = refl;
  shorter = refl;
  cut = refl;
  longer = refl;
  below_eight = refl;
  with_option = refl;
}
