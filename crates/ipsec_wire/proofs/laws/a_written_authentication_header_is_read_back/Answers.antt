use Rattle.ipsec_wire.proofs.AhLemmas as lemmas
use Rattle.ipsec_wire.proofs.laws.a_written_authentication_header_is_read_back.Goals as goal

pub returns : goal.returns
returns c = lemmas.read_back
