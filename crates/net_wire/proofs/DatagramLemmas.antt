-- The words of the IPv4 and UDP headers beside their checksums.
use Rattle.std.proofs.Common.{◌≡◌, ℕ, ◌+◌, ◌^◌, ◌<◌, List, ◌++◌, length, refl, arith, length-append}
use Rattle.wire_base.specs.Checksum.{word_sum}
use Rattle.wire_base.proofs.ChecksumLemmas.{word_sum-append}
use Rattle.net_wire.specs.declared.address.Ipv4Address.{Ipv4Address}
use Rattle.net_wire.specs.Datagram.{ipv4_bytes, udp_bytes}

-- a checksum is one word of its header
pub word_sum-ipv4_bytes : (source destination : Ipv4Address) (protocol payload_len hop_limit checksum : ℕ) → checksum < 2 ^ 16
    → word_sum (ipv4_bytes source destination protocol payload_len hop_limit checksum) ≡ word_sum (ipv4_bytes source destination protocol payload_len hop_limit 0) + checksum
unfolding ipv4_bytes
word_sum-ipv4_bytes source destination protocol payload_len hop_limit checksum word = omega arith

word_sum-udp_bytes : (source_port destination_port len checksum : ℕ) → checksum < 2 ^ 16
    → word_sum (udp_bytes source_port destination_port len checksum) ≡ word_sum (udp_bytes source_port destination_port len 0) + checksum
unfolding udp_bytes
word_sum-udp_bytes source_port destination_port len checksum word = omega arith

length-udp_bytes : (source_port destination_port len checksum : ℕ) → length (udp_bytes source_port destination_port len checksum) ≡ 8
unfolding udp_bytes
length-udp_bytes source_port destination_port len checksum = refl

-- what a UDP checksum covers sums to its parts without the checksum, and the checksum
pub word_sum-datagram : (pseudo payload : List ℕ) (source_port destination_port len checksum : ℕ) → length pseudo ≡ 12 → checksum < 2 ^ 16
    → word_sum (pseudo ++ udp_bytes source_port destination_port len checksum ++ payload)
    ≡ word_sum pseudo + word_sum (udp_bytes source_port destination_port len 0) + word_sum payload + checksum
word_sum-datagram pseudo payload source_port destination_port len checksum twelve word =
    let header = udp_bytes source_port destination_port len checksum in
    let eight = length-udp_bytes source_port destination_port len checksum in
    let front = word_sum-append 6 pseudo header twelve in
    let all = word_sum-append 10 (pseudo ++ header) payload (omega (arith, length-append pseudo header)) in
    omega (arith, word_sum-udp_bytes source_port destination_port len checksum word)
