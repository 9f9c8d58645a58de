use Rattle.std.proofs.Common.{sym, ◌∙◌, ap}
use Rattle.net_wire.specs.DnsLabels.{labels_left}
use Rattle.dns_client.specs.AnswerRead.{content_value}
use Rattle.dns_client.proofs.AnswerLemmas.{answer_parts}
use Rattle.dns_client.proofs.ChainLemmas.{same_names, alias_followed, address_found, passed_over}
use Rattle.dns_client.proofs.answer.follow_one.Goals as goal

pub returns-in-Alias : goal.returns-in-Alias
returns-in-Alias c = λ name value all named is kept.
    let parts = answer_parts _ _ value is in
    let same = same_names _ _ value.owner name _ parts.0 named c.same_labels.ensures in
    alias_followed c.args.number name value all c.args.found.now.items (labels_left c.in-Alias.target) kept (same ∙ c.if-same_labels.true) (sym (ap content_value c.in-Alias.is) ∙ parts.1)

pub returns-then-other-number : goal.returns-then-other-number
returns-then-other-number c = λ name value all named is kept.
    let parts = answer_parts _ _ value is in
    let same = same_names _ _ value.owner name _ parts.0 named c.same_labels.ensures in
    address_found c.args.number name value all c.add_first.new.found.items (labels_left c.args.wanted.now) c.in-Address.other c.in-Address.address named (c.add_first.ensures all kept)
    (same ∙ c.if-same_labels.true) (sym (ap content_value c.in-Address.is) ∙ parts.1) c.if-other-number.true

pub returns-else-same_labels : goal.returns-else-same_labels
returns-else-same_labels c = λ name value all named is kept.
    let parts = answer_parts _ _ value is in
    let same = same_names _ _ value.owner name _ parts.0 named c.same_labels.ensures in
    passed_over c.args.number name value all c.args.found.now.items (labels_left c.args.wanted.now) named kept (same ∙ c.if-same_labels.false)
