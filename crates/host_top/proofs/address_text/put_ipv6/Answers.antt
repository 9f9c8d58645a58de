use Rattle.std.proofs.Common.{◌≡◌, length, rules, arith, add-one, refl}
use Rattle.host_top.proofs.JoinLemmas.{join_groups_more}
use Rattle.host_top.proofs.TextLemmas.{puts_then, puts_same}
use Rattle.host_top.proofs.address_text.put_ipv6.Goals as goal

pub loop-group-preserved : goal.loop-group-preserved
loop-group-preserved g c =
    let long : length c.args.address.0 ≡ 16 = search rules in
    record {
      between = rw add-one refl;
      put = puts_same
          (puts_then (puts_then c.loop-group.invariant.put (puts_same c.put.ensures c.loop-group.invariant.between))
          (puts_then c.put_byte.ensures c.put_byte-in-loop-group.ensures))
          (join_groups_more 58 c.loop-group.group c.args.address.0 _ (omega (arith, long, c.loop-group-test.true)));
    }
