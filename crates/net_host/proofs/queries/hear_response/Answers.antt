use Rattle.std.proofs.Common.{sym, ◌∙◌}
use Rattle.net_wire.specs.ArrivalValues.{datagram_value}
use Rattle.dns_client.specs.Client.{client_of}
use Rattle.net_host.proofs.QueryNumberLemmas.{response_stands}
use Rattle.net_host.proofs.queries.hear_response.Goals as goal

pub returns-then-accepts-clause-stand : goal.returns-then-accepts-clause-stand
returns-then-accepts-clause-stand c = λ servers slots numbers stand.
    response_stands (datagram_value c.args.datagram.now) servers slots numbers (client_of c.args.dns.now) (client_of c.process.new.self)
    stand (sym c.accepts.ensures.value ∙ c.if-accepts.true) c.process.ensures.value
