use Rattle.host_model.proofs.LastLossLemmas.{loss_found, loss_held}
use Rattle.host_model.proofs.laws.losses_are_last.Goals as goal

pub returns : goal.returns
returns c = λ settings entries place. (loss_found settings place entries, loss_held settings place entries)
