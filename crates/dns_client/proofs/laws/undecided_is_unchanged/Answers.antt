use Rattle.dns_client.proofs.UndecidedLemmas.{unchanged}
use Rattle.dns_client.proofs.laws.undecided_is_unchanged.Goals as goal

pub returns : goal.returns
returns c = λ arrived message slots none. unchanged arrived message slots none
