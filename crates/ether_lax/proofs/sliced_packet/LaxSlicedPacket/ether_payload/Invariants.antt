use Rattle.std.proofs.Common.{◌≡◌, drop}
use Rattle.std.specs.Prelude.{map, option_map}
use Rattle.ether_link.specs.declared.len_source.LenSource.TheVariants.{Slice}
use Rattle.ether_lax.specs.EtherParts.{payload_of_link, payload_behind}
use Rattle.ether_lax.specs.LinkExts.{ext_in, ether_in}
use Rattle.ether_lax.proofs.sliced_packet.LaxSlicedPacket.ether_payload.Given as goal

abbrev pub invariant-loop-ext : goal.invariant-loop-ext
invariant-loop-ext l = payload_behind (option_map ether_in l.payload) l.source (map ext_in (drop l.ext-index l.self.link_exts.items))
    ≡ payload_behind (payload_of_link l.self.link) Slice (map ext_in l.self.link_exts.items)
