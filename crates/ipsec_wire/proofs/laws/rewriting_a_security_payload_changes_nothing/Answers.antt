use Rattle.ipsec_wire.proofs.EspLemmas as lemmas
use Rattle.ipsec_wire.proofs.laws.rewriting_a_security_payload_changes_nothing.Goals as goal

pub returns : goal.returns
returns c = lemmas.changes_nothing
