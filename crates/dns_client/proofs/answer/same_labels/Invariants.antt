-- The labels so far are the same.
use Rattle.std.proofs.Common.{◌≡◌, ◌↔◌}
use Rattle.net_wire.specs.DnsLabels.{labels_left}
use Rattle.dns_client.proofs.answer.same_labels.Given as goal

abbrev pub invariant-loop-label : goal.invariant-loop-label
invariant-loop-label l =
    (labels_left l.label-iterator ≡ labels_left l.right) ↔ (labels_left l.fn.left ≡ labels_left l.fn.right)
