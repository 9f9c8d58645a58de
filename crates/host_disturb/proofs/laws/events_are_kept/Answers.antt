use Rattle.std.proofs.Common.{[], refl}
use Rattle.host_disturb.proofs.MetLemmas.{are_met, number_met, times_met, words_met}
use Rattle.host_disturb.specs.Disturbed.{settings_for, fresh_state, disturbed}
use Rattle.host_disturb.proofs.laws.events_are_kept.Goals as goal

pub returns : goal.returns
returns c = λ faults events.
    let are = are_met (settings_for faults) (fresh_state faults.seed) events in
    record {
      number = number_met events (disturbed faults events) are;
      times = times_met events (disturbed faults events) are;
      words = λ settings words. words_met settings words [] [] events (disturbed faults events) refl refl are;
    }
