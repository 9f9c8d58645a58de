use Rattle.std.proofs.Common.{refl}
use Rattle.managed.proofs.LoanLemmas.{elements-written}
use Rattle.managed.proofs.laws.a_loan_writes_one_element.Goals as goal

pub returns : goal.returns
returns g c = record {
  written = λ m place w. elements-written m.owned m.borrowed place w;
  places = λ m place w. refl;
  freed = λ m place. refl;
  handed = λ m. refl;
  others = λ m place. refl;
  rest = λ m. refl;
}
