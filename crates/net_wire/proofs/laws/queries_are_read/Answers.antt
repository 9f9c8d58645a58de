use Rattle.net_wire.proofs.DnsQueryLemmas.{query_is_read}
use Rattle.net_wire.proofs.laws.queries_are_read.Goals as goal

pub returns : goal.returns
returns c = query_is_read
