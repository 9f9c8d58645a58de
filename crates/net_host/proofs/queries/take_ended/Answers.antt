use Rattle.std.proofs.Common.{sym, ◌∙◌, ap, Err}
use Rattle.dns_client.specs.Client.{client_of}
use Rattle.net_host.proofs.QueryTakenLemmas.{ok_taken, failed_taken}
use Rattle.net_host.proofs.queries.take_ended.Goals as goal

pub returns-in-Ok-clause-stand : goal.returns-in-Ok-clause-stand
returns-in-Ok-clause-stand c = λ slots stand.
    ok_taken slots c.args.slot c.in_ok-handle.handle (client_of c.args.dns.now).slots (client_of c.get_query_result.new.self).slots
    c.get_query_result.result stand (sym c.handle_at.ensures.value ∙ c.in_ok-handle.was) c.get_query_result.ensures.value c.in-Ok.addresses c.in-Ok.is

pub returns-in-Err-Failed-clause-stand : goal.returns-in-Err-Failed-clause-stand
returns-in-Err-Failed-clause-stand c = λ slots stand.
    failed_taken slots c.args.slot c.in_ok-handle.handle (client_of c.args.dns.now).slots (client_of c.get_query_result.new.self).slots
    c.get_query_result.result stand (sym c.handle_at.ensures.value ∙ c.in_ok-handle.was) c.get_query_result.ensures.value
    (c.in-Err-Failed.is ∙ ap Err c.in-Err-Failed.field-0-is)
