use Rattle.ipsec_wire.proofs.AhLemmas as lemmas
use Rattle.ipsec_wire.proofs.laws.rewriting_clears_the_reserved_bytes.Goals as goal

pub returns : goal.returns
returns c = lemmas.clears_reserved
