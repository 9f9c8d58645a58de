use Rattle.std.proofs.Common.{◌≡◌, take}
use Rattle.ether_lax.specs.Tags.{tag_headers}
use Rattle.ether_lax.proofs.packet_headers.LaxPacketHeaders.tags.Given as goal

abbrev pub invariant-loop-ext : goal.invariant-loop-ext
invariant-loop-ext l = l.tags.items ≡ tag_headers (take l.ext-index l.self.link_exts.items)
