-- Padding is passed over.
use Rattle.std.proofs.Common.{ap, sym, ◌∙◌, arith}
use Rattle.net_wire.specs.DhcpOptions.{items_of}
use Rattle.net_wire.proofs.DhcpReadLemmas.{no_items, pad_here}
use Rattle.net_wire.proofs.dhcp.read.first_item.Goals as goal

pub loop-kind-preserved : goal.loop-kind-preserved
loop-kind-preserved c = record {
  same = sym (pad_here c.in-Some.kind.now c.in-Some.after.now c.if-kind-ne-OPT_PAD.false)
      ∙ sym (ap items_of c.in-Some.ensures.cases.0) ∙ c.loop-kind.invariant.same;
  within = omega (arith, c.in-Some.ensures.cases.1);
}

pub returns : goal.returns
returns c = sym c.loop-kind.invariant.same ∙ no_items c.loop-kind.rest.now c.in_default.ensures.cases
