use Rattle.std.proofs.Common.{refl}
use Rattle.dns_client.proofs.laws.faults_by_example.Goals as goal

pub returns : goal.returns
returns c = record {
  none = refl;
  empty = refl;
  one_point = refl;
  two_points = refl;
  between = refl;
  longest_label = refl;
  long_label = refl;
  longest = refl;
  too_long = refl;
  too_long_first = refl;
  label_first = refl;
  local = refl;
  not_last = refl;
  other_case = refl;
}
