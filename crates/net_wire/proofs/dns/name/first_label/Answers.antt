use Rattle.std.proofs.Common.{sym, ◌∙◌}
use Rattle.net_wire.proofs.DnsNameLemmas.{labels_at-inside, labels_at-outside}
use Rattle.net_wire.proofs.dns.name.first_label.Goals as goal

pub returns-then-target-below : goal.returns-then-target-below
returns-then-target-below c =
    sym c.loop-label.invariant ∙ labels_at-outside _ _ _ _ c.in-Pointer.ensures.value c.if-target-below.true

pub loop-label-preserved : goal.loop-label-preserved
loop-label-preserved c =
    rw (c.split_at.ensures.front, c.split_at.ensures.back)
    (sym (labels_at-inside _ _ _ _ c.in-Pointer.ensures.value c.if-target-below.false) ∙ c.loop-label.invariant)
