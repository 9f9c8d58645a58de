use Rattle.host_model.proofs.QuerySlotLemmas.{slots_kept}
use Rattle.host_model.proofs.laws.slots_are_kept.Goals as goal

pub returns : goal.returns
returns c = λ settings entries. slots_kept settings entries
