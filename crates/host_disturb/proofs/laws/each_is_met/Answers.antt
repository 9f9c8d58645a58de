use Rattle.host_disturb.proofs.MetLemmas.{are_met}
use Rattle.host_disturb.specs.Disturbed.{settings_for, fresh_state}
use Rattle.host_disturb.proofs.laws.each_is_met.Goals as goal

pub returns : goal.returns
returns c = λ faults events. are_met (settings_for faults) (fresh_state faults.seed) events
