-- A checksum within its bounds is the only one that brings the rest to zero, and so a sent frame is the only one.
use Rattle.std.proofs.Common.{◌≡◌, ℕ, ◌+◌, ◌%◌, ◌<◌, List, length, ap, ◌∙◌, sym, arith, length-append}
use Rattle.wire_base.specs.Checksum.{word_sum}
use Rattle.net_wire.specs.declared.address.Ipv4Address.{Ipv4Address}
use Rattle.net_wire.specs.Datagram.{ipv4_bytes, udp_bytes, pseudo_header, IsIpv4Header, IsOneSentFrame}
use Rattle.net_wire.proofs.DatagramLemmas.{word_sum-ipv4_bytes, word_sum-datagram}

-- below 65535, and from 1 to 65535
one_below : (sum one other : ℕ) → one < 65535 → other < 65535 → (sum + one) % 65535 ≡ 0 → (sum + other) % 65535 ≡ 0 → one ≡ other
one_below sum one other below other_below zero other_zero = omega arith

one_above : (sum one other : ℕ) → 0 < one → 0 < other → one < 65536 → other < 65536 → (sum + one) % 65535 ≡ 0 → (sum + other) % 65535 ≡ 0 → one ≡ other
one_above sum one other above other_above below other_below zero other_zero = omega arith

-- there is one header
one_header : (source destination : Ipv4Address) (protocol payload_len hop_limit : ℕ) (header other : List ℕ)
    → IsIpv4Header source destination protocol payload_len hop_limit header → IsIpv4Header source destination protocol payload_len hop_limit other → header ≡ other
one_header source destination protocol payload_len hop_limit header other h o =
    let sum = word_sum-ipv4_bytes source destination protocol payload_len hop_limit h.checksum (omega (arith, h.within)) in
    let other_sum = word_sum-ipv4_bytes source destination protocol payload_len hop_limit o.checksum (omega (arith, o.within)) in
    let same : h.checksum ≡ o.checksum = one_below (word_sum (ipv4_bytes source destination protocol payload_len hop_limit 0)) h.checksum o.checksum h.within o.within (omega (arith, h.sums)) (omega (arith, o.sums)) in
    h.bytes ∙ ap (λ checksum. ipv4_bytes source destination protocol payload_len hop_limit checksum) same ∙ sym o.bytes

length-pseudo_header : (source destination : Ipv4Address) (len : ℕ) → length source.0 ≡ 4 → length destination.0 ≡ 4 → length (pseudo_header source destination len) ≡ 12
unfolding pseudo_header
length-pseudo_header source destination len four four_too = grind (arith, length-append)

pub one_sent_frame : IsOneSentFrame
one_sent_frame from to hop_limit datagram four four_too frame other h o =
    let len = length datagram.payload + 8 in
    let pseudo = pseudo_header datagram.source datagram.destination len in
    let twelve = length-pseudo_header datagram.source datagram.destination len four four_too in
    let unsigned = word_sum pseudo + word_sum (udp_bytes datagram.source_port datagram.destination_port len 0) + word_sum datagram.payload in
    let sum = word_sum-datagram pseudo datagram.payload datagram.source_port datagram.destination_port len h.udp_checksum twelve h.within.1 in
    let other_sum = word_sum-datagram pseudo datagram.payload datagram.source_port datagram.destination_port len o.udp_checksum twelve o.within.1 in
    let same = one_above unsigned h.udp_checksum o.udp_checksum h.within.0 o.within.0 h.within.1 o.within.1 (omega (arith, h.sums)) (omega (arith, o.sums)) in
    let header = one_header datagram.source datagram.destination 17 len hop_limit h.header o.header h.ipv4 o.ipv4 in
    rw (h.bytes, o.bytes, header, same)
