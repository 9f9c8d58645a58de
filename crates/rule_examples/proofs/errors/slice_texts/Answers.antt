use Rattle.std.proofs.Common.{refl}
use Rattle.std.specs.Fmt.{digits}
use Rattle.rule_examples.proofs.errors.slice_texts.Goals as goal

pub returns : goal.returns
unfolding digits
returns c = record {
  auth = refl;
  ipv4 = refl;
  ipv4_packet = refl;
  ipv6 = refl;
  ipv6_packet = refl;
  chain = refl;
  extensions = refl;
  headers = refl;
  ip_packet = refl;
  lax = refl;
  tcp = refl;
}
