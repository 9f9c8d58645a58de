use Rattle.host_model.proofs.HopLemmas.{hop_neighbors, neighbor_hops}
use Rattle.host_model.proofs.laws.hops_are_neighbors.Goals as goal

pub returns : goal.returns
returns c = λ settings events at address hardware.
    (hop_neighbors settings address at hardware events, neighbor_hops settings address at hardware events)
