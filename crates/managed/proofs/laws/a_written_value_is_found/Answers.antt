use Rattle.managed.proofs.LawLemmas.{value-set}
use Rattle.managed.proofs.laws.a_written_value_is_found.Goals as goal

pub returns : goal.returns
returns g c = λ es key value other there. value-set g.met.K.Ord.total key value other es there
