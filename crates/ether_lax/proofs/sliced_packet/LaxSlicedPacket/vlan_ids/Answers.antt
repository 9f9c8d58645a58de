use Rattle.std.proofs.Common.{◌≡◌, ◌<◌, length, get_or, refl, sym}
use Rattle.ether_lax.proofs.TagLemmas.{ids_with, ids_same}
use Rattle.ether_lax.proofs.sliced_packet.LaxSlicedPacket.vlan_ids.Goals as goal
use Rattle.ether_lax.proofs.sliced_packet.LaxSlicedPacket.vlan_ids.Goals.{in-Vlan, in-Macsec}

pub loop-ext-preserved : goal.loop-ext-preserved
loop-ext-preserved c =
    let items = c.as_slice-ext-items.ensures.value in
    let there : c.loop-ext.ext-index < length c.args.self.now.link_exts.items = rw items at (c.loop-ext-test.true) in
    let ext_is : c.ext-item.result ≡ get_or c.args.self.now.link_exts.items c.loop-ext.ext-index c.ext-item.result = rw items at (c.ext-item.is) in
    elim c.match-ext.branch [
      | in-Vlan w ↦ rw (w.ids-is, w.push.ensures.items)
          (ids_with c.args.self.now.link_exts.items c.loop-ext.ext-index c.ext-item.result w.in-Vlan.tag w.vlan_id.result c.loop-ext.ids.items there ext_is w.in-Vlan.is
          w.vlan_id.ensures.value c.loop-ext.invariant)
      | in-Macsec w ↦ rw (w.ids-is, ids_same c.args.self.now.link_exts.items c.loop-ext.ext-index c.ext-item.result w.in-Macsec.field-0 there ext_is w.in-Macsec.is) c.loop-ext.invariant
    ]
