use Rattle.std.proofs.Common.{refl}
use Rattle.dns_client.proofs.laws.chains_by_example.Goals as goal

pub returns : goal.returns
returns c = record {
  direct = refl;
  other_owner = refl;
  aliases = refl;
  before_alias = refl;
  behind_alias = refl;
  off_alias = refl;
  back = refl;
  passed = refl;
  asked_type = refl;
  asked_type6 = refl;
  other_type = refl;
  first_four = refl;
  other_case = refl;
}
