use Rattle.std.proofs.Common.{◌≡◌, ◌<◌, length, get_or}
use Rattle.ether_lax.proofs.TagLemmas.{tags_with, tags_same}
use Rattle.ether_lax.proofs.sliced_packet.LaxSlicedPacket.tags.Goals as goal
use Rattle.ether_lax.proofs.sliced_packet.LaxSlicedPacket.tags.Goals.{in-Vlan, in-Macsec}

pub loop-ext-preserved : goal.loop-ext-preserved
loop-ext-preserved c =
    let items = c.as_slice-ext-items.ensures.value in
    let there : c.loop-ext.ext-index < length c.args.self.now.link_exts.items = rw items at (c.loop-ext-test.true) in
    let ext_is : c.ext-item.result ≡ get_or c.args.self.now.link_exts.items c.loop-ext.ext-index c.ext-item.result = rw items at (c.ext-item.is) in
    elim c.match-ext.branch [
      | in-Vlan w ↦ rw (w.tags-is, w.push.ensures.items)
          (tags_with c.args.self.now.link_exts.items c.loop-ext.ext-index c.ext-item.result w.in-Vlan.tag w.copied.result c.loop-ext.tags.items there ext_is w.in-Vlan.is
          w.copied.ensures.value c.loop-ext.invariant)
      | in-Macsec w ↦ rw (w.tags-is, tags_same c.args.self.now.link_exts.items c.loop-ext.ext-index c.ext-item.result w.in-Macsec.field-0 there ext_is w.in-Macsec.is) c.loop-ext.invariant
    ]
