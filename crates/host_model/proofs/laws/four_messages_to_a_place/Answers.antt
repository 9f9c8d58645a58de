use Rattle.host_model.proofs.QuerySpareLemmas.{four_messages}
use Rattle.host_model.proofs.laws.four_messages_to_a_place.Goals as goal

pub returns : goal.returns
returns c = λ settings entries rising number place. four_messages settings entries rising number place
