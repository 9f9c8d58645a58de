use Rattle.dhcp_client.proofs.PlanLemmas.{waits_in}
use Rattle.dhcp_client.proofs.laws.waits_before_due.Goals as goal

pub returns : goal.returns
returns c = λ client cx word early. waits_in client.state client.settings client.transaction_id cx word early
