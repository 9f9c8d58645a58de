use Rattle.std.proofs.Common.{refl}
use Rattle.std.specs.Fmt.{digits}
use Rattle.rule_examples.proofs.errors.header_texts.Goals as goal

pub returns : goal.returns
unfolding digits
returns c = record {
  auth = refl;
  ipv4_version = refl;
  ipv4_len = refl;
  ipv6_version = refl;
  chain = refl;
  chain_auth = refl;
  ip_version = refl;
  ip_len = refl;
  tcp = refl;
  extensions = refl;
  headers = refl;
}
