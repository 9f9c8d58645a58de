use Rattle.std.proofs.Common.{[], arith}
use Rattle.host_model.proofs.RisingLemmas.{rises}
use Rattle.host_model.proofs.laws.scripts_rise.Goals as goal

pub returns : goal.returns
returns c = λ settings words last events in_order. rises settings words [] last events (omega arith) in_order tt
