use Rattle.dhcp_client.proofs.EndingLemmas.{stays}
use Rattle.dhcp_client.proofs.HeardLemmas.{message_ordered}
use Rattle.dhcp_client.proofs.laws.dues_stay_ordered.Goals as goal

pub returns : goal.returns
returns c = record {
  at_first = λ settings. tt;
  reset = λ client. tt;
  heard = message_ordered;
  dispatched = λ client cx word room ordered. stays client.state client.settings client.transaction_id cx word room ordered;
}
