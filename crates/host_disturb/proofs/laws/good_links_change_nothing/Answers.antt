use Rattle.host_disturb.proofs.GoodLemmas.{same_events}
use Rattle.host_disturb.specs.Disturbed.{settings_for, fresh_state}
use Rattle.host_disturb.proofs.laws.good_links_change_nothing.Goals as goal

pub returns : goal.returns
returns c = λ faults events good short.
    same_events (settings_for faults) (fresh_state faults.seed) events
    (record { drop = good.drop; corrupt = good.corrupt; size = good.size; rate = good.rate }) short
