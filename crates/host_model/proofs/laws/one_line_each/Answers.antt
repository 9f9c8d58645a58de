use Rattle.host_model.proofs.QueryLineLemmas.{one_line}
use Rattle.host_model.proofs.laws.one_line_each.Goals as goal

pub returns : goal.returns
returns c = λ settings entries number. one_line number settings entries
