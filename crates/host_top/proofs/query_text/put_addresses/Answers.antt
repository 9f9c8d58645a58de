use Rattle.std.proofs.Common.{arith, add-one, refl}
use Rattle.host_top.specs.AddressText.{ip_text}
use Rattle.host_top.proofs.JoinLemmas.{join_map_more}
use Rattle.host_top.proofs.TextLemmas.{puts_then, puts_same}
use Rattle.host_top.proofs.query_text.put_addresses.Goals as goal

pub loop-address-preserved : goal.loop-address-preserved
loop-address-preserved g c = record {
  between = rw add-one refl;
  put = puts_same
      (puts_then (puts_then c.loop-address.invariant.put (puts_same c.put.ensures c.loop-address.invariant.between)) c.put_ip.ensures)
      (join_map_more 44 c.loop-address.address-index ip_text c.args.addresses.now _ (omega (arith, c.loop-address-test.true)));
}
