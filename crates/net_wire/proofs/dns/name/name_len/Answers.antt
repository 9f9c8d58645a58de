use Rattle.std.proofs.Common.{arith}
use Rattle.net_wire.proofs.DnsNameLemmas.{name_len-label}
use Rattle.net_wire.proofs.dns.name.name_len.Goals as goal

pub loop-label-preserved : goal.loop-label-preserved
loop-label-preserved c = record {
  counted = name_len-label _ _ _ _ _ c.in-Label.ensures.value c.loop-label.invariant.counted;
  splits = omega (arith, c.in-Label.ensures.takes);
}
