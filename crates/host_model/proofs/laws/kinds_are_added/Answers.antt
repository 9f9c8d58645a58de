use Rattle.host_model.proofs.ClassLemmas.{one_script}
use Rattle.host_model.proofs.KindLemmas.{broken}
use Rattle.host_model.proofs.laws.kinds_are_added.Goals as goal

pub returns : goal.returns
returns c = record {
  same = λ max bytes events is. (is.script, λ others other. one_script max bytes others events other is.script);
  over = λ max bytes is. is.over;
  broken = broken;
}
