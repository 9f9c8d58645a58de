use Rattle.host_disturb.proofs.MetLemmas.{are_met}
use Rattle.host_disturb.proofs.SpelledLemmas.{script_met}
use Rattle.host_disturb.specs.Disturbed.{settings_for, fresh_state, disturbed}
use Rattle.host_disturb.proofs.laws.scripts_stay_scripts.Goals as goal

pub returns : goal.returns
returns c = λ faults max bytes events script.
    script_met max bytes events (disturbed faults events)
    (are_met (settings_for faults) (fresh_state faults.seed) events) script
