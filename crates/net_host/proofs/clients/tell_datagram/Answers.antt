use Rattle.std.proofs.Common.{◌∙◌, ap, subst, sym}
use Rattle.std.specs.Option.{option_map}
use Rattle.net_wire.specs.ArrivalValues.{datagram_value}
use Rattle.dns_client.specs.Client.{client_of}
use Rattle.host_model.specs.Queries.{hears_datagram}
use Rattle.net_host.specs.QueryStanding.{StandAs}
use Rattle.net_host.proofs.QueryHeardLemmas.{told_other}
use Rattle.net_host.proofs.clients.tell_datagram.Goals as goal

pub returns-else-is_for_client-clause-queries : goal.returns-else-is_for_client-clause-queries
returns-else-is_for_client-clause-queries c = λ settings servers slots numbers same stand.
    let datagram = datagram_value c.in-Some.datagram in
    let hears = ap (λ found. hears_datagram settings servers found slots) (ap (option_map datagram_value) c.in-Some.is)
    ∙ told_other settings servers slots c.args.dhcp.now.settings datagram same
    (sym c.is_for_client.ensures ∙ c.if-is_for_client.false) in
    subst (λ list. StandAs servers list (client_of c.hear_response.new.dns) numbers) (sym hears)
    (c.hear_response.ensures.stand servers slots numbers stand)
