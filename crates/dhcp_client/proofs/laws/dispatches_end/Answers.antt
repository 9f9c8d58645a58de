use Rattle.dhcp_client.proofs.EndingLemmas.{ends}
use Rattle.dhcp_client.proofs.laws.dispatches_end.Goals as goal

pub returns : goal.returns
returns c = λ client cx word timeouts room ordered due.
    ends client.state client.settings client.transaction_id cx word timeouts room ordered due
