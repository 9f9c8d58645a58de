-- So far along the chain, for each name that is asked.
use Rattle.std.proofs.Common.{◌≡◌, ◌-◌, Some}
use Rattle.net_wire.specs.DnsLabels.{labels_left}
use Rattle.net_wire.specs.DnsName.{name_of}
use Rattle.dns_client.specs.AnswerChain.{Name, answers_at}
use Rattle.dns_client.proofs.FollowLemmas.{Progress}
use Rattle.dns_client.proofs.answer.follow.Given as goal

abbrev pub invariant-loop-i : goal.invariant-loop-i
invariant-loop-i l = (name : Name) → name_of (labels_left l.fn.asked) ≡ Some name
    → Progress l.packet l.number name (answers_at l.packet l.count l.records) (l.count - l.i) l.rest (labels_left l.wanted) l.found.items
