use Rattle.host_model.proofs.KnownLemmas.{known_ways, ways_known}
use Rattle.host_model.proofs.laws.hops_are_known.Goals as goal

pub returns : goal.returns
returns c = λ settings before event destination hardware.
    (known_ways settings before event destination hardware, ways_known settings before event destination hardware)
