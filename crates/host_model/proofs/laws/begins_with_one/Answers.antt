use Rattle.std.proofs.Common.{sym, ◌∙◌}
use Rattle.host_model.proofs.ScriptLemmas.{same_event}
use Rattle.host_model.proofs.laws.begins_with_one.Goals as goal

pub returns : goal.returns
returns c = λ bytes one other front rest begin more in_one in_other may_one may_other spelled spelled_too is is_too.
    same_event one other front begin rest more in_one in_other may_one may_other spelled spelled_too (sym is ∙ is_too)
