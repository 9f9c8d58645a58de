use Rattle.std.proofs.Common.{◌≡◌, take}
use Rattle.std.specs.Prelude.{map}
use Rattle.ether_lax.specs.LinkExts.{ext_in, header_of_ext}
use Rattle.ether_lax.proofs.headers.ext_headers.Given as goal

abbrev pub invariant-loop-ext : goal.invariant-loop-ext
invariant-loop-ext l = l.headers.items ≡ map header_of_ext (map ext_in (take l.ext-index l.exts))
