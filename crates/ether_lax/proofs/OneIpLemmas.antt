-- Some bytes are one IP packet.
use Rattle.std.proofs.Common.{◌≡◌, ℕ, List, length, Option, Some, sym, ◌∙◌}
use Rattle.ether_link.specs.declared.err.layers.Layer.{Layer}
use Rattle.ether_link.specs.declared.layout.PartKind.TheVariants.{Ip}
use Rattle.ether_link.proofs.LayoutLemmas.{one}
use Rattle.ether_ip.specs.PacketGrammar.{packet_grammar}
use Rattle.ether_ip.specs.declared.err.ipv6_exts.HeaderSliceError.{HeaderSliceError}
use Rattle.ether_lax.specs.IpParts.{IsIpPacket}
use Rattle.ether_lax.specs.Nets.{NetPart, ip_in}
use Rattle.ether_lax.specs.Steps.{begins_with}
use Rattle.ether_lax.specs.declared.ip.LaxIpSlice.{LaxIpSlice}

same_part : (a b : NetPart) (x : Option NetPart) → x ≡ Some a → x ≡ Some b → a ≡ b
same_part a b x is other = cc

pub one_ip : (bytes : List ℕ) (packet other : LaxIpSlice) (stop last : Option (HeaderSliceError × Layer)) → IsIpPacket bytes packet stop
    → IsIpPacket bytes other last → (ip_in packet ≡ ip_in other) × (stop ≡ last)
one_ip bytes packet other stop last a b =
    let same = one packet_grammar bytes (begins_with Ip) 0 (length bytes) b.places a.places b.last a.last b.layout a.layout in
    let part = rw (same.0) at (b.part) in
    let stopped = rw (same.0, same.1) at (b.stopped) in
    (same_part (ip_in packet) (ip_in other) _ a.part part, a.stopped ∙ sym stopped)
