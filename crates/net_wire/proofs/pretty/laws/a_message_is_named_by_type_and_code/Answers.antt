use Rattle.net_wire.proofs.PrettyLemmas as lemmas
use Rattle.net_wire.proofs.pretty.laws.a_message_is_named_by_type_and_code.Goals as goal

pub returns : goal.returns
returns c = lemmas.messages
