use Rattle.lease_server.proofs.LawLemmas.{free_is_lowest}
use Rattle.lease_server.proofs.laws.the_free_address_is_the_lowest.Goals as goal

pub returns : goal.returns
returns c = free_is_lowest
