use Rattle.net_wire.proofs.DnsNameLemmas.{reads, spelled}
use Rattle.net_wire.proofs.laws.names_are_spelled.Goals as goal

pub returns : goal.returns
returns c = λ message bytes name. (reads message bytes name, spelled message bytes name)
