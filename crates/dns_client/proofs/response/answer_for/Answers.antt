use Rattle.std.proofs.Common.{sym, ◌∙◌}
use Rattle.std.proofs.lemmas.Bool.{eqb-true}
use Rattle.dns_client.proofs.ResponseLemmas.{answer_to_another, answer_to_own}
use Rattle.dns_client.proofs.response.answer_for.Goals as goal

pub returns-else-same_labels : goal.returns-else-same_labels
returns-else-same_labels c =
    answer_to_another c.args.packet.now c.payload.result.now c.args.request.now _ c.in-Ok.records.now c.payload.ensures.value
    c.in-Ok.ensures.value c.asked_labels-asked.ensures.plain (eqb-true _ _ (sym c.is_asked.ensures ∙ c.if-is_asked.true)) _ _
    c.parse_name.ensures.value c.asked_labels-asked.ensures.value c.same_labels.result c.same_labels.ensures c.if-same_labels.false

pub returns-then-same_labels : goal.returns-then-same_labels
returns-then-same_labels c =
    answer_to_own c.args.packet.now c.payload.result.now c.args.request.now _ c.in-Ok.records.now c.payload.ensures.value
    c.in-Ok.ensures.value c.asked_labels-asked.ensures.plain (eqb-true _ _ (sym c.is_asked.ensures ∙ c.if-is_asked.true)) _ _
    c.parse_name.ensures.value c.asked_labels-asked.ensures.value c.same_labels.result c.same_labels.ensures
    _ _ _ c.asked_number.ensures c.answer_record_count.ensures.value c.follow.ensures c.if-same_labels.true
