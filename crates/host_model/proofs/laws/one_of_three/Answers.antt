use Rattle.host_model.proofs.ClassLemmas.{not_over, not_broken, over_or_broken, one_script, one_place}
use Rattle.host_model.proofs.SomeLemmas.{some}
use Rattle.host_model.proofs.laws.one_of_three.Goals as goal

pub returns : goal.returns
returns c = record {
  some = some;
  not_over = λ max bytes valid over. not_over max bytes valid.0 valid.1 over;
  not_broken = λ max bytes offset valid broken. not_broken max bytes offset valid.0 valid.1 broken;
  over_or_broken = over_or_broken;
  one_script = one_script;
  one_place = one_place;
}
