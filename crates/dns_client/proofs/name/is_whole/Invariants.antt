-- No label so far is a fault.
use Rattle.std.proofs.Common.{◌≡◌, is_some}
use Rattle.net_wire.specs.DnsLabels.{labels_left}
use Rattle.net_wire.specs.DnsName.{name_of}
use Rattle.dns_client.proofs.name.is_whole.Given as goal

abbrev pub invariant-loop-label : goal.invariant-loop-label
invariant-loop-label l = is_some (name_of (labels_left l.label-iterator)) ≡ is_some (name_of (labels_left l.fn.labels))
