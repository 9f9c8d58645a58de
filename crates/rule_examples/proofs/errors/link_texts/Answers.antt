use Rattle.std.proofs.Common.{refl}
use Rattle.std.specs.Fmt.{digits}
use Rattle.rule_examples.proofs.errors.link_texts.Goals as goal

pub returns : goal.returns
unfolding digits
returns c = record {
  len = refl;
  macsec_version = refl;
  macsec_len = refl;
  macsec_slice = refl;
  packet_type = refl;
  hardware = refl;
  linux_sll_slice = refl;
}
