use Rattle.dhcp_client.proofs.SpanLemmas.{spans_ordered}
use Rattle.dhcp_client.proofs.laws.lease_times_are_ordered.Goals as goal

pub returns : goal.returns
returns c = spans_ordered
