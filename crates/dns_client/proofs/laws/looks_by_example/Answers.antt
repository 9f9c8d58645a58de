use Rattle.std.proofs.Common.{refl}
use Rattle.dns_client.proofs.laws.looks_by_example.Goals as goal

pub returns : goal.returns
returns c = record {
  first = refl;
  early = refl;
  doubles = refl;
  longest = refl;
  lasts = refl;
  ends = refl;
  past = refl;
  count = refl;
  count_next = refl;
  refused = refl;
  count_refused = refl;
  no_source = refl;
  no_address = refl;
}
