use Rattle.ether_link.proofs.LinkLemmas.{orderly_link}
use Rattle.ether_link.proofs.laws.link_parts_are_orderly.Goals as goal

pub returns : goal.returns
returns g c = λ errors above orderly. orderly_link errors above orderly
