use Rattle.host_model.proofs.PrefixLemmas.{on_network, with_prefix}
use Rattle.host_model.proofs.laws.networks_are_prefixes.Goals as goal

pub returns : goal.returns
returns c = λ held destination within bytes bytes_too.
    (on_network held destination within bytes bytes_too, with_prefix held destination within bytes bytes_too)
