use Rattle.std.proofs.Common.{◌≡◌, take}
use Rattle.ether_lax.specs.Tags.{tag_headers, header_ids}
use Rattle.ether_lax.proofs.packet_headers.LaxPacketHeaders.vlan_ids.Given as goal

abbrev pub invariant-loop-ext : goal.invariant-loop-ext
invariant-loop-ext l = l.ids.items ≡ header_ids (tag_headers (take l.ext-index l.self.link_exts.items))
