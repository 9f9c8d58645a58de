-- For each datagram there is a frame that carries it.
use Rattle.std.proofs.Common.{◌≡◌, ℕ, ◌+◌, ◌-◌, ◌%◌, ◌<◌, List, ◌++◌, length, refl, ap, ◌∙◌, arith, length-append}
use Rattle.wire_base.specs.Checksum.{word_sum}
use Rattle.net_wire.specs.declared.address.EthernetAddress.{EthernetAddress}
use Rattle.net_wire.specs.declared.address.Ipv4Address.{Ipv4Address}
use Rattle.net_wire.specs.Datagram.{Datagram, ethernet_bytes, ipv4_bytes, udp_bytes, pseudo_header, IsIpv4Header, IsSentFrame}
use Rattle.net_wire.proofs.DatagramLemmas.{word_sum-ipv4_bytes, word_sum-datagram}

-- checksums below 65535, and from 1 to 65535
below : ℕ → ℕ
below sum = (65535 - sum % 65535) % 65535

above : ℕ → ℕ
above sum = 65535 - sum % 65535

is_below : (sum : ℕ) → (below sum < 65535) × ((sum + below sum) % 65535 ≡ 0)
unfolding below
is_below sum = (omega arith, omega arith)

is_above : (sum : ℕ) → (0 < above sum) × (above sum < 65536) × ((sum + above sum) % 65535 ≡ 0)
unfolding above
is_above sum = (omega arith, omega arith, omega arith)

some_header : (source destination : Ipv4Address) (protocol payload_len hop_limit : ℕ)
    → (header : List ℕ) × IsIpv4Header source destination protocol payload_len hop_limit header
some_header source destination protocol payload_len hop_limit =
    let checksum = below (word_sum (ipv4_bytes source destination protocol payload_len hop_limit 0)) in
    let is = is_below (word_sum (ipv4_bytes source destination protocol payload_len hop_limit 0)) in
    let sum = word_sum-ipv4_bytes source destination protocol payload_len hop_limit checksum (omega (arith, is.0)) in (
      ipv4_bytes source destination protocol payload_len hop_limit checksum,
      record { checksum = checksum; within = is.0; bytes = refl; sums = rw sum is.1 },
    )

length-pseudo_header : (source destination : Ipv4Address) (len : ℕ) → length source.0 ≡ 4 → length destination.0 ≡ 4
    → length (pseudo_header source destination len) ≡ 12
unfolding pseudo_header
length-pseudo_header source destination len four four_too = grind (arith, length-append)

pub some_frame : (from to : EthernetAddress) (hop_limit : ℕ) (datagram : Datagram) → length datagram.source.0 ≡ 4
    → length datagram.destination.0 ≡ 4 → (frame : List ℕ) × IsSentFrame from to hop_limit datagram frame
some_frame from to hop_limit datagram four four_too =
    let len = length datagram.payload + 8 in
    let pseudo = pseudo_header datagram.source datagram.destination len in
    let twelve = length-pseudo_header datagram.source datagram.destination len four four_too in
    let unsigned = word_sum pseudo + word_sum (udp_bytes datagram.source_port datagram.destination_port len 0) + word_sum datagram.payload in
    let is = is_above unsigned in
    let sum = word_sum-datagram pseudo datagram.payload datagram.source_port datagram.destination_port len (above unsigned) twelve (omega (arith, is.1)) in
    let header = some_header datagram.source datagram.destination 17 len hop_limit in (
      ethernet_bytes to from 0x0800 ++ header.0 ++ udp_bytes datagram.source_port datagram.destination_port len (above unsigned) ++ datagram.payload,
      record {
        header = header.0;
        udp_checksum = above unsigned;
        within = (is.0, is.1);
        ipv4 = header.1;
        bytes = refl;
        sums = rw sum is.2;
      },
    )

length-header : (source destination : Ipv4Address) (protocol payload_len hop_limit checksum : ℕ) → length source.0 ≡ 4 → length destination.0 ≡ 4
    → length (ipv4_bytes source destination protocol payload_len hop_limit checksum) ≡ 20
unfolding ipv4_bytes
length-header source destination protocol payload_len hop_limit checksum four four_too = grind (arith, length-append)

length-ethernet : (to from : EthernetAddress) (ether_type : ℕ) → length to.0 ≡ 6 → length from.0 ≡ 6 → length (ethernet_bytes to from ether_type) ≡ 14
unfolding ethernet_bytes
length-ethernet to from ether_type six six_too = grind (arith, length-append)

length-udp : (source_port destination_port len checksum : ℕ) → length (udp_bytes source_port destination_port len checksum) ≡ 8
unfolding udp_bytes
length-udp source_port destination_port len checksum = refl

-- and it has 42 bytes more than the datagram
pub length-frame : (from to : EthernetAddress) (hop_limit : ℕ) (datagram : Datagram) (frame : List ℕ) → length from.0 ≡ 6 → length to.0 ≡ 6
    → length datagram.source.0 ≡ 4 → length datagram.destination.0 ≡ 4 → IsSentFrame from to hop_limit datagram frame
    → length frame ≡ length datagram.payload + 42
length-frame from to hop_limit datagram frame six six_too four four_too is =
    let len = length datagram.payload + 8 in
    let ethernet = length-ethernet to from 0x0800 six_too six in
    let ipv4 = ap length is.ipv4.bytes ∙ length-header datagram.source datagram.destination 17 len hop_limit is.ipv4.checksum four four_too in
    let udp = length-udp datagram.source_port datagram.destination_port len is.udp_checksum in
    let front = ethernet_bytes to from 0x0800 ++ is.header in
    let middle = udp_bytes datagram.source_port datagram.destination_port len is.udp_checksum in
    let headers = length-append (ethernet_bytes to from 0x0800) is.header in
    let all_headers = length-append front middle in
    let whole = length-append (front ++ middle) datagram.payload in
    omega (arith, ap length is.bytes, ethernet, ipv4, udp, headers, all_headers, whole)
