use Rattle.std.proofs.Common.{◌≡◌, take}
use Rattle.std.specs.Prelude.{map}
use Rattle.ether_lax.specs.LinkExts.{ext_in}
use Rattle.ether_lax.specs.Tags.{tags_of}
use Rattle.ether_lax.proofs.sliced_packet.LaxSlicedPacket.tags.Given as goal

abbrev pub invariant-loop-ext : goal.invariant-loop-ext
invariant-loop-ext l = l.tags.items ≡ tags_of (map ext_in (take l.ext-index l.self.link_exts.items))
