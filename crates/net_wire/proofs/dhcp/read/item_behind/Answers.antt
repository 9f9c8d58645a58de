use Rattle.net_wire.proofs.DhcpReadLemmas.{item_in, end_here, cut_short, cut_inside}
use Rattle.net_wire.proofs.dhcp.read.item_behind.Goals as goal

pub returns-then-kind-eq-OPT_END : goal.returns-then-kind-eq-OPT_END
returns-then-kind-eq-OPT_END c = end_here c.args.kind c.args.bytes.now c.if-kind-eq-OPT_END.true

pub returns-in_default : goal.returns-in_default
returns-in_default c = cut_short c.args.kind c.args.bytes.now c.requires c.in_default.ensures.cases

pub returns-then-after-len : goal.returns-then-after-len
returns-then-after-len c =
    cut_inside c.args.kind c.in-Some.len.now c.args.bytes.now c.in-Some.after.now c.requires c.if-kind-eq-OPT_END.false
    c.in-Some.ensures.cases.0 c.if-after-len.true

pub returns : goal.returns
returns c =
    item_in c.args.kind c.in-Some.len.now c.args.bytes.now c.in-Some.after.now c.split_at.result.0.now c.split_at.result.1.now
    c.requires c.if-kind-eq-OPT_END.false c.in-Some.ensures.cases.0 c.if-after-len.false c.split_at.ensures.front c.split_at.ensures.back
