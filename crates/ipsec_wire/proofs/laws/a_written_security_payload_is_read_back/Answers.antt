use Rattle.ipsec_wire.proofs.EspLemmas as lemmas
use Rattle.ipsec_wire.proofs.laws.a_written_security_payload_is_read_back.Goals as goal

pub returns : goal.returns
returns c = lemmas.read_back
