use Rattle.host_disturb.proofs.StepLemmas.{later_events}
use Rattle.host_disturb.proofs.laws.later_events_change_nothing.Goals as goal

pub returns : goal.returns
returns c = later_events
