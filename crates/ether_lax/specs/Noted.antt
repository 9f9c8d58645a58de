-- What a host looks for in a packet without link extensions: an ARP packet, or a whole UDP datagram right
-- behind an IPv4 header (RFC 826; RFC 791; RFC 768).
use Rattle.std.specs.Prelude.{ℕ, ◌==◌, Bool, true, false, ◌&&◌, if◌then◌else◌, List, [], ◌∷◌, length, Option, Some, None}
use Rattle.wire_base.specs.Bytes.{be16_at}
use Rattle.ether_link.specs.declared.len_source.LenSource.{LenSource}
use Rattle.ether_link.specs.declared.len_source.LenSource.TheVariants.{Ipv4HeaderTotalLen}
use Rattle.ether_ip.specs.declared.transport.TransportSlice.{TransportSlice}
use Rattle.ether_ip.specs.declared.transport.TransportSlice.TheVariants.{Udp}
use Rattle.ether_lax.specs.LinkExts.{LinkExtPart}
use Rattle.ether_lax.specs.Nets.{NetPart, Ipv4Part, ArpPart}
use Rattle.ether_lax.specs.Sliced.{SlicedParts}
use Rattle.ether_lax.specs.declared.noted.Ipv4Datagram.{Ipv4Datagram}

-- the end of a packet is where its total length says
abbrev pub is_by_total_length : LenSource → Bool
is_by_total_length Ipv4HeaderTotalLen = true
is_by_total_length source = false

-- a datagram has as many bytes as its length field says
abbrev pub is_by_length : List ℕ → Bool
is_by_length bytes = be16_at bytes 4 == length bytes

-- the bytes of an ARP packet
abbrev pub arp_by : Option NetPart → Option (List ℕ)
arp_by (Some (ArpPart packet)) = Some packet
arp_by other = None

-- an IPv4 header and the UDP datagram right behind it, both as long as they say
pub record DatagramPart : Type 0 where
  pub header : List ℕ
  pub udp : List ℕ

abbrev pub datagram_by : Option NetPart → Option TransportSlice → Option DatagramPart
datagram_by (Some (Ipv4Part header None payload)) (Some (Udp bytes)) =
    if is_by_total_length payload.source && is_by_length bytes
    then Some (record { header = header; udp = bytes }) else None
datagram_by net transport = None

-- what stands in a packet without link extensions
abbrev pub untagged : {T : Type 0} → List LinkExtPart → Option T → Option T
untagged [] answer = answer
untagged (ext ∷ more) answer = None

abbrev pub arp_in : SlicedParts → Option (List ℕ)
arp_in parts = untagged parts.exts (arp_by parts.net)

abbrev pub datagram_in : SlicedParts → Option DatagramPart
datagram_in parts = untagged parts.exts (datagram_by parts.net parts.transport)

-- what a caller holds of a datagram
abbrev pub datagram_of : Ipv4Datagram → DatagramPart
datagram_of datagram = record { header = datagram.header.now; udp = datagram.udp.now }
