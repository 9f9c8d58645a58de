use Rattle.dhcp_client.proofs.EndingLemmas.{moves}
use Rattle.dhcp_client.proofs.laws.messages_move_due.Goals as goal

pub returns : goal.returns
returns c = λ client cx word timeouts room. moves client.state client.settings client.transaction_id cx word timeouts room
