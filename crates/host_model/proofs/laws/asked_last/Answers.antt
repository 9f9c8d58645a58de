use Rattle.host_model.proofs.QueryAskedLemmas.{all_asked}
use Rattle.host_model.proofs.laws.asked_last.Goals as goal

pub returns : goal.returns
returns c = λ settings entries. all_asked settings entries
