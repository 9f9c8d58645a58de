use Rattle.std.proofs.Common.{refl}
use Rattle.std.specs.Fmt.{digits}
use Rattle.rule_examples.proofs.errors.packet_texts.Goals as goal

pub returns : goal.returns
unfolding digits
returns c = record {
  link = refl;
  ip = refl;
  above = refl;
}
