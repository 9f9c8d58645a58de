use Rattle.host_model.proofs.LastLeaseLemmas.{lease_found, lease_held}
use Rattle.host_model.proofs.laws.leases_are_last_acknowledgements.Goals as goal

pub returns : goal.returns
returns c = λ settings entries address. (lease_found settings entries address, lease_held settings entries address)
