use Rattle.dns_client.proofs.SendsLemmas.{four_messages}
use Rattle.dns_client.proofs.laws.four_messages_to_a_place.Goals as goal

pub returns : goal.returns
returns c = λ request looks place up_to. four_messages request looks place up_to
