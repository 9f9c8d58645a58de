-- The datagrams that frames carry by example, one for each rule that a slip would change. Sums were worked
-- out apart.
use Rattle.std.specs.Prelude.{◌≡◌, ℕ, List, [], ◌∷◌, ◌++◌, take, replicate, Some, None}
use Rattle.net_wire.specs.declared.address.EthernetAddress.{EthernetAddress}
use Rattle.net_wire.specs.declared.arrival.Sources.TheVariants.{UnicastOrUnspecified}
use Rattle.net_wire.specs.Arrival.{arriving_datagram, carried_datagram}
use Rattle.net_wire.specs.Datagram.{Datagram}
use Rattle.net_wire.specs.DhcpRead.{address_with, hardware_with}

-- two stations, a host, and all hosts of the link
abbrev pub station : EthernetAddress
station = hardware_with (replicate 6 2)

abbrev pub other_station : EthernetAddress
other_station = hardware_with (replicate 6 4)

abbrev pub host : List ℕ
host = 192 ∷ 168 ∷ 1 ∷ 1 ∷ []

-- flags and offset, header checksum and source: a header of 20 bytes, 31 with what follows, to all hosts
abbrev pub header_with : List ℕ → List ℕ → List ℕ → List ℕ
header_with fragment checksum source =
    0x45 ∷ 0 ∷ 0 ∷ 31 ∷ 0 ∷ 0 ∷ [] ++ fragment ++ 64 ∷ 17 ∷ [] ++ checksum ++ source ++ replicate 4 255

-- first byte, protocol and header checksum: else the header of 20 bytes from the host
abbrev pub header_by : ℕ → ℕ → List ℕ → List ℕ
header_by first protocol checksum =
    first ∷ 0 ∷ 0 ∷ 31 ∷ replicate 4 0 ++ 64 ∷ protocol ∷ [] ++ checksum ++ host ++ replicate 4 255

-- length and checksum: from port 67 to 68, with three bytes
abbrev pub udp_with : ℕ → List ℕ → List ℕ
udp_with len checksum = 0 ∷ 67 ∷ 0 ∷ 68 ∷ 0 ∷ len ∷ [] ++ checksum ++ 0xAA ∷ 0xBB ∷ 0xCC ∷ []

abbrev pub header : List ℕ
header = header_with (0 ∷ 0 ∷ []) (0xB9 ∷ 0x25 ∷ []) host

abbrev pub udp : List ℕ
udp = udp_with 11 (0xC6 ∷ 0xEB ∷ [])

-- no UDP checksum
abbrev pub bare_udp : List ℕ
bare_udp = udp_with 11 (0 ∷ 0 ∷ [])

-- ether type and what is behind it, from another station to this one
abbrev pub frame_of : List ℕ → List ℕ → List ℕ
frame_of ether_type packet = replicate 6 2 ++ replicate 6 4 ++ ether_type ++ packet

abbrev pub ip_frame : List ℕ → List ℕ → List ℕ
ip_frame header udp = frame_of (0x08 ∷ 0 ∷ []) (header ++ udp)

abbrev pub datagram_from : List ℕ → List ℕ → Datagram
datagram_from source payload = record {
  source = address_with source;
  destination = address_with (replicate 4 255);
  source_port = 67;
  destination_port = 68;
  payload = payload;
}

abbrev pub datagram : Datagram
datagram = datagram_from host (0xAA ∷ 0xBB ∷ 0xCC ∷ [])

pub record DatagramsByExample : Type 0 where
  pub carried : arriving_datagram station (ip_frame header udp) ≡ Some datagram
  -- to the station or to a group
  pub to_other : arriving_datagram other_station (ip_frame header udp) ≡ None
  pub to_group : arriving_datagram station (1 ∷ replicate 11 4 ++ 0x08 ∷ 0 ∷ [] ++ header ++ udp)
      ≡ Some datagram
  pub tagged : arriving_datagram station (frame_of (0x81 ∷ 0 ∷ 0 ∷ 1 ∷ 0x08 ∷ 0 ∷ []) (header ++ udp)) ≡ None
  -- the UDP checksum: 0 says that there is none
  pub no_sum : arriving_datagram station (ip_frame header bare_udp) ≡ Some datagram
  pub wrong_sum : arriving_datagram station (ip_frame header (udp_with 11 (0xC6 ∷ 0xEC ∷ []))) ≡ None
  -- the header checksum, which 0 does not leave out; FFFF is 0
  pub wrong_header : arriving_datagram station
      (ip_frame (header_with (0 ∷ 0 ∷ []) (0xB9 ∷ 0x26 ∷ []) host) udp) ≡ None
  pub no_header_sum : arriving_datagram station
      (ip_frame (header_with (0 ∷ 0 ∷ []) (0 ∷ 0 ∷ []) host) udp) ≡ None
  pub all_ones : arriving_datagram station
      (ip_frame (header_with (0 ∷ 0 ∷ []) (0xFF ∷ 0xFF ∷ []) (10 ∷ 0 ∷ 0x70 ∷ 0xCF ∷ [])) bare_udp)
      ≡ Some (datagram_from (10 ∷ 0 ∷ 0x70 ∷ 0xCF ∷ []) (0xAA ∷ 0xBB ∷ 0xCC ∷ []))
  -- the version 4, a header of 20 bytes at least, and the protocol UDP, where all else is right
  pub other_version : arriving_datagram station (ip_frame (header_by 0x65 17 (0x99 ∷ 0x25 ∷ [])) udp) ≡ None
  pub short_header : arriving_datagram station
      (ip_frame (header_by 0x44 17 (0xBA ∷ 0x25 ∷ [])) (0 ∷ 15 ∷ 0 ∷ 0 ∷ replicate 7 7)) ≡ None
  pub other_protocol : arriving_datagram station (ip_frame (header_by 0x45 6 (0xB9 ∷ 0x30 ∷ [])) udp) ≡ None
  -- the first fragment of some, and a later one; don't fragment and the reserved bit make none
  pub more_fragments : arriving_datagram station
      (ip_frame (header_with (0x20 ∷ 0 ∷ []) (0x99 ∷ 0x25 ∷ []) host) udp) ≡ None
  pub an_offset : arriving_datagram station
      (ip_frame (header_with (0 ∷ 1 ∷ []) (0xB9 ∷ 0x24 ∷ []) host) udp) ≡ None
  pub not_to_fragment : arriving_datagram station
      (ip_frame (header_with (0x40 ∷ 0 ∷ []) (0x79 ∷ 0x25 ∷ []) host) udp) ≡ Some datagram
  pub reserved : arriving_datagram station
      (ip_frame (header_with (0x80 ∷ 0 ∷ []) (0x39 ∷ 0x25 ∷ []) host) udp) ≡ Some datagram
  -- the source is one host
  pub from_group : arriving_datagram station
      (ip_frame (header_with (0 ∷ 0 ∷ []) (0x9A ∷ 0xCD ∷ []) (224 ∷ 0 ∷ 0 ∷ 1 ∷ [])) bare_udp) ≡ None
  pub from_nobody : arriving_datagram station
      (ip_frame (header_with (0 ∷ 0 ∷ []) (0x7A ∷ 0xCF ∷ []) (replicate 4 0)) bare_udp) ≡ None
  -- or none yet, where that counts too
  pub from_nobody_yet : carried_datagram UnicastOrUnspecified station
      (ip_frame (header_with (0 ∷ 0 ∷ []) (0x7A ∷ 0xCF ∷ []) (replicate 4 0)) bare_udp)
      ≡ Some (datagram_from (replicate 4 0) (0xAA ∷ 0xBB ∷ 0xCC ∷ []))
  pub from_a_host_then : carried_datagram UnicastOrUnspecified station (ip_frame header udp) ≡ Some datagram
  pub from_group_then : carried_datagram UnicastOrUnspecified station
      (ip_frame (header_with (0 ∷ 0 ∷ []) (0x9A ∷ 0xCD ∷ []) (224 ∷ 0 ∷ 0 ∷ 1 ∷ [])) bare_udp) ≡ None
  -- bytes behind the packet, and behind the datagram inside the packet, are not looked at
  pub padded : arriving_datagram station (ip_frame header udp ++ replicate 15 7) ≡ Some datagram
  pub shorter : arriving_datagram station (ip_frame header (udp_with 9 (0x93 ∷ 0xAB ∷ [])))
      ≡ Some (datagram_from host (0xAA ∷ []))
  -- as many bytes as the lengths say, and room for the UDP header
  pub cut : arriving_datagram station (take 44 (ip_frame header udp)) ≡ None
  pub longer : arriving_datagram station (ip_frame header (udp_with 12 (0 ∷ 0 ∷ [])) ++ replicate 15 0) ≡ None
  pub below_eight : arriving_datagram station (ip_frame header (udp_with 7 (0 ∷ 0 ∷ []))) ≡ None
  -- an option of four bytes in the header
  pub with_option : arriving_datagram station
      (ip_frame (0x46 ∷ 0 ∷ 0 ∷ 35 ∷ 0 ∷ 0 ∷ 0 ∷ 0 ∷ 64 ∷ 17 ∷ 0xB6 ∷ 0x20 ∷ [] ++ host ++ replicate 4 255
      ++ 1 ∷ 1 ∷ 1 ∷ 0 ∷ []) udp) ≡ Some datagram
