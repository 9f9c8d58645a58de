use Rattle.host_model.proofs.TurnLemmas.{in_turn}
use Rattle.host_model.proofs.laws.clients_accept_in_turn.Goals as goal

pub returns : goal.returns
returns c = in_turn
