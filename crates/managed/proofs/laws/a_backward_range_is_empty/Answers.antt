use Rattle.managed.proofs.RangeLemmas.{none_backwards}
use Rattle.managed.proofs.laws.a_backward_range_is_empty.Goals as goal

pub returns : goal.returns
returns g c = λ from to es back. none_backwards g.met.K.Ord.total from to es back
