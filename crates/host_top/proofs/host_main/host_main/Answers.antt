use Rattle.host_top.proofs.CommandLemmas.{asked_by, asked_command, asked_to_read, no_work}
use Rattle.host_top.proofs.CountLemmas.{counts_of}
use Rattle.host_top.proofs.EndingLemmas.{refused_exactly, complete_named}
use Rattle.host_top.proofs.StatusLemmas.{says}
use Rattle.host_top.proofs.host_main.host_main.Goals as goal

pub returns-clause-refuses : goal.returns-clause-refuses
returns-clause-refuses g c = refused_exactly (record { asks = asked_by _ _ c.parse-asked.ensures.found c.parse-asked.ensures.refuses; ended = c.obey-finish.ensures.ended.ended; status = c.status_after.ensures })

pub returns-clause-done : goal.returns-clause-done
returns-clause-done g c = (says (record { asks = asked_by _ _ c.parse-asked.ensures.found c.parse-asked.ensures.refuses; ended = c.obey-finish.ensures.ended.ended; status = c.status_after.ensures })).done

pub returns-clause-broken : goal.returns-clause-broken
returns-clause-broken g c = (says (record { asks = asked_by _ _ c.parse-asked.ensures.found c.parse-asked.ensures.refuses; ended = c.obey-finish.ensures.ended.ended; status = c.status_after.ensures })).broken

pub returns-clause-limit : goal.returns-clause-limit
returns-clause-limit g c = (says (record { asks = asked_by _ _ c.parse-asked.ensures.found c.parse-asked.ensures.refuses; ended = c.obey-finish.ensures.ended.ended; status = c.status_after.ensures })).limit

pub returns-clause-read : goal.returns-clause-read
returns-clause-read g c = (says (record { asks = asked_by _ _ c.parse-asked.ensures.found c.parse-asked.ensures.refuses; ended = c.obey-finish.ensures.ended.ended; status = c.status_after.ensures })).read

pub returns-clause-capture : goal.returns-clause-capture
returns-clause-capture g c = (says (record { asks = asked_by _ _ c.parse-asked.ensures.found c.parse-asked.ensures.refuses; ended = c.obey-finish.ensures.ended.ended; status = c.status_after.ensures })).capture

pub returns-clause-complete : goal.returns-clause-complete
returns-clause-complete g c = λ taken read capture output.
    complete_named (record { asks = asked_by _ _ c.parse-asked.ensures.found c.parse-asked.ensures.refuses; ended = c.obey-finish.ensures.ended.ended; status = c.status_after.ensures }) taken read capture
    (λ faulted. output (c.obey-finish.ensures.ended.took.fault faulted))

pub obey-finish-requires-clause-command : goal.obey-finish-requires-clause-command
obey-finish-requires-clause-command g c = asked_command _ _ c.parse-asked.ensures.found

pub returns-clause-untouched : goal.returns-clause-untouched
returns-clause-untouched g c = λ asks.
    c.obey-finish.ensures.untouched
    (no_work _ _ (asked_by _ _ c.parse-asked.ensures.found c.parse-asked.ensures.refuses) asks)

pub returns-clause-queries : goal.returns-clause-queries
returns-clause-queries g c = counts_of _ _ _ _ _ _ c.obey-finish.ensures.ended.ended

pub returns-clause-uncaptured : goal.returns-clause-uncaptured
returns-clause-uncaptured g c = λ asks.
    c.obey-finish.ensures.uncaptured asks.0
    (asked_to_read _ _ asks (asked_by _ _ c.parse-asked.ensures.found c.parse-asked.ensures.refuses)) asks.2
