-- The labels so far have a place.
use Rattle.std.proofs.Common.{◌↔◌, ◌+◌, ◌<◌, ◌≤◌}
use Rattle.net_wire.specs.DnsLabels.{labels_left}
use Rattle.net_wire.specs.DnsName.{name_of, wire_len}
use Rattle.dns_client.specs.AnswerRead.{IfName}
use Rattle.dns_client.proofs.answer.is_short.Given as goal

abbrev pub invariant-loop-label : goal.invariant-loop-label
invariant-loop-label l = record {
  counted : IfName (name_of (labels_left l.label-iterator)) (λ name. wire_len name + l.len ≤ 256)
      ↔ IfName (name_of (labels_left l.fn.labels)) (λ name. wire_len name ≤ 255);
  within : (0 < l.len) × (l.len ≤ 255);
}
