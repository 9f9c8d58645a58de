-- The frames of a DHCP server by example: 192.168.1.1 gives 192.168.1.42 (RFC 2131, section 2, figure 1;
-- options by RFC 2132). Sums were worked out apart.
use Rattle.std.specs.Prelude.{ℕ, List, [], ◌∷◌, ◌++◌, replicate}
use Rattle.std.specs.Int.{to_be_bytes, w16, w32}

-- the station of the examples, and that of the server
abbrev pub station : List ℕ
station = replicate 6 2

abbrev pub server_station : List ℕ
server_station = 2 ∷ replicate 4 0 ++ 1 ∷ []

abbrev pub host : ℕ → List ℕ
host last = 192 ∷ 168 ∷ 1 ∷ last ∷ []

-- ether type and what is behind it, from the server's station
abbrev pub frame_with : List ℕ → List ℕ → List ℕ
frame_with ether_type packet = station ++ server_station ++ ether_type ++ packet

-- total length, flags and offset, and header checksum: UDP from the server to all hosts
abbrev pub header_with : ℕ → ℕ → ℕ → List ℕ
header_with total fragment checksum =
    0x45 ∷ 0 ∷ [] ++ to_be_bytes w16 total ++ 0 ∷ 0 ∷ [] ++ to_be_bytes w16 fragment ++ 64 ∷ 17 ∷ []
    ++ to_be_bytes w16 checksum ++ host 1 ++ replicate 4 255

-- length, checksum and what is behind: from port 67 to 68
abbrev pub udp_with : ℕ → ℕ → List ℕ → List ℕ
udp_with len checksum message =
    0 ∷ 67 ∷ 0 ∷ 68 ∷ [] ++ to_be_bytes w16 len ++ to_be_bytes w16 checksum ++ message

-- id, the client's address, its hardware address, and options: a reply
abbrev pub reply_with : ℕ → List ℕ → List ℕ → List ℕ → List ℕ
reply_with id your_ip hardware options =
    2 ∷ 1 ∷ 6 ∷ 0 ∷ [] ++ to_be_bytes w32 id ++ replicate 8 0 ++ your_ip ++ replicate 8 0 ++ hardware
    ++ replicate 202 0 ++ 0x63 ∷ 0x82 ∷ 0x53 ∷ 0x63 ∷ [] ++ options ++ 255 ∷ []

-- the type of a message, and the server that it names
abbrev pub named : ℕ → List ℕ
named kind = 53 ∷ 1 ∷ kind ∷ 54 ∷ 4 ∷ [] ++ host 1

-- the router 192.168.1.1, the mask 255.255.255.0, the time of the lease in seconds and a name server
abbrev pub granting : ℕ → List ℕ
granting seconds =
    3 ∷ 4 ∷ [] ++ host 1 ++ 1 ∷ 4 ∷ 255 ∷ 255 ∷ 255 ∷ 0 ∷ 51 ∷ 4 ∷ [] ++ to_be_bytes w32 seconds
    ++ 6 ∷ 4 ∷ [] ++ host 53

-- type, seconds and id: the address for the station, in 274 bytes
abbrev pub grant_with : ℕ → ℕ → ℕ → List ℕ
grant_with kind seconds id = reply_with id (host 42) station (named kind ++ granting seconds)

abbrev pub ip_frame : List ℕ → List ℕ → List ℕ
ip_frame header udp = frame_with (0x08 ∷ 0 ∷ []) (header ++ udp)

-- the header that such a message is sent behind, and its datagram without a checksum
abbrev pub grant_header : List ℕ
grant_header = header_with 302 0 0xB816

abbrev pub grant_udp : ℕ → ℕ → ℕ → List ℕ
grant_udp kind seconds id = udp_with 282 0 (grant_with kind seconds id)

abbrev pub offer : ℕ → List ℕ
offer id = ip_frame grant_header (grant_udp 2 1000 id)

-- an acknowledgement of a lease of so many seconds
abbrev pub ack_for : ℕ → ℕ → List ℕ
ack_for seconds id = ip_frame grant_header (grant_udp 5 seconds id)

abbrev pub ack : ℕ → List ℕ
ack id = ack_for 1000 id

-- a refusal to a hardware address, in 250 bytes
abbrev pub nak_to : List ℕ → ℕ → List ℕ
nak_to hardware id =
    ip_frame (header_with 278 0 0xB82E) (udp_with 258 0 (reply_with id (replicate 4 0) hardware (named 6)))

abbrev pub nak : ℕ → List ℕ
nak id = nak_to station id

-- an ARP packet (RFC 826): operation, the hardware address and the address of sender and of target
abbrev pub arp_with : ℕ → List ℕ → List ℕ → List ℕ → List ℕ → List ℕ
arp_with operation sender sender_ip target target_ip =
    frame_with (0x08 ∷ 0x06 ∷ [])
    (0 ∷ 1 ∷ 0x08 ∷ 0 ∷ 6 ∷ 4 ∷ 0 ∷ operation ∷ [] ++ sender ++ sender_ip ++ target ++ target_ip)

-- the station that the server says it has, which is not the one that its frames come from
abbrev pub told_station : List ℕ
told_station = 2 ∷ replicate 4 0 ++ 9 ∷ []

abbrev pub arp_reply : List ℕ
arp_reply = arp_with 2 told_station (host 1) station (host 42)
