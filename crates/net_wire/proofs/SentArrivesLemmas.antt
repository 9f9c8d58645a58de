-- A frame that was sent is read as what it was sent with.
use Rattle.std.proofs.Common.{◌≡◌, ℕ, ◌+◌, ◌%◌, ◌<◌, ◌≤◌, List, [], ◌∷◌, ◌++◌, length, take, drop, get_or, ap, sym, ◌∙◌, refl, arith, append_assoc, length-append, Bool, true, false, ◌||◌, ◌-◌, eqb, Some}
use Rattle.std.proofs.Math.Seq.{take-length}
use Rattle.std.proofs.lemmas.Bool.{le-leb}
use Rattle.std.proofs.lemmas.List.{take_all}
use Rattle.std.proofs.lemmas.Nat.{from_be_bytes-to_be_bytes_2}
use Rattle.wire_base.specs.Bytes.{be16_at, bytes_between}
use Rattle.wire_base.specs.Checksum.{word_sum, SumsToZero}
use Rattle.net_wire.specs.declared.address.EthernetAddress.{EthernetAddress}
use Rattle.net_wire.specs.declared.address.Ipv4Address.{Ipv4Address}
use Rattle.net_wire.specs.Arrival.{has_packet_for, is_taken_by, is_packet, is_udp_packet, has_udp, has_right_sum, total_len, udp_len, body_of, packet_datagram, udp_datagram, carried_datagram, counts, SentFramesArrive}
use Rattle.net_wire.specs.declared.arrival.Sources.{Sources}
use Rattle.net_wire.specs.Datagram.{Datagram, ethernet_bytes, ipv4_bytes, udp_bytes, pseudo_header}

-- the cells of short lists
pub four_cells : (xs : List ℕ) → length xs ≡ 4 → xs ≡ get_or xs 0 0 ∷ get_or xs 1 0 ∷ get_or xs 2 0 ∷ get_or xs 3 0 ∷ []
four_cells [] is = absurd (omega (arith, is))
four_cells (a ∷ []) is = absurd (omega (arith, is))
four_cells (a ∷ b ∷ []) is = absurd (omega (arith, is))
four_cells (a ∷ b ∷ c ∷ []) is = absurd (omega (arith, is))
four_cells (a ∷ b ∷ c ∷ d ∷ []) is = refl
four_cells (a ∷ b ∷ c ∷ d ∷ e ∷ more) is = absurd (omega (arith, is))

pub six_cells : (xs : List ℕ) → length xs ≡ 6
    → xs ≡ get_or xs 0 0 ∷ get_or xs 1 0 ∷ get_or xs 2 0 ∷ get_or xs 3 0 ∷ get_or xs 4 0 ∷ get_or xs 5 0 ∷ []
six_cells [] is = absurd (omega (arith, is))
six_cells (a ∷ []) is = absurd (omega (arith, is))
six_cells (a ∷ b ∷ []) is = absurd (omega (arith, is))
six_cells (a ∷ b ∷ c ∷ []) is = absurd (omega (arith, is))
six_cells (a ∷ b ∷ c ∷ d ∷ []) is = absurd (omega (arith, is))
six_cells (a ∷ b ∷ c ∷ d ∷ e ∷ []) is = absurd (omega (arith, is))
six_cells (a ∷ b ∷ c ∷ d ∷ e ∷ f ∷ []) is = refl
six_cells (a ∷ b ∷ c ∷ d ∷ e ∷ f ∷ g ∷ more) is = absurd (omega (arith, is))

-- the Ethernet header
is_for_taker : (hardware to : EthernetAddress) (frame : List ℕ) → take 6 frame ≡ to.0 → be16_at frame 12 ≡ 0x0800
    → 14 ≤ length frame → is_taken_by hardware to ≡ true → has_packet_for hardware frame ≡ true
is_for_taker hardware to frame front type long taken = rw (le-leb 14 (length frame) long, type, front) taken

eth_front : (to from : List ℕ) (packet : List ℕ) → length to ≡ 6 → length from ≡ 6
    → take 6 (to ++ from ++ 8 ∷ 0 ∷ [] ++ packet) ≡ to
eth_front to from packet six also = rw (six_cells to six) refl

eth_type : (to from : List ℕ) (packet : List ℕ) → length to ≡ 6 → length from ≡ 6
    → be16_at (to ++ from ++ 8 ∷ 0 ∷ [] ++ packet) 12 ≡ 0x0800
eth_type to from packet six also = rw (six_cells to six, six_cells from also) refl

eth_rest : (to from : List ℕ) (packet : List ℕ) → length to ≡ 6 → length from ≡ 6
    → drop 14 (to ++ from ++ 8 ∷ 0 ∷ [] ++ packet) ≡ packet
eth_rest to from packet six also = rw (six_cells to six, six_cells from also) refl

-- the IPv4 header
is_whole_packet : (packet : List ℕ) → 20 ≤ length packet → get_or packet 0 0 ≡ 0x45 → total_len packet ≡ length packet
    → is_packet packet ≡ true
is_whole_packet packet long first total = rw (first, total, le-leb 20 (length packet) long, le-leb (length packet) (length packet) (omega arith)) refl

is_right_packet : (sources : Sources) (packet header : List ℕ) (source : Ipv4Address) → get_or packet 0 0 ≡ 0x45 → take 20 packet ≡ header
    → SumsToZero header → be16_at packet 6 ≡ 0x4000 → bytes_between 12 16 packet ≡ source.0 → get_or packet 9 0 ≡ 17
    → counts sources source ≡ true → is_udp_packet sources packet ≡ true
is_right_packet sources packet header source first front sums flags is_source protocol unicast =
    rw (first, front, sums, flags, is_source, protocol, unicast) refl

-- the packet that is sent
sent_len : (source destination : Ipv4Address) (len hop checksum : ℕ) → length source.0 ≡ 4 → length destination.0 ≡ 4
    → length (ipv4_bytes source destination 17 len hop checksum) ≡ 20
unfolding ipv4_bytes
sent_len source destination len hop checksum four also = rw (four_cells source.0 four, four_cells destination.0 also) refl

sent_first : (source destination : Ipv4Address) (len hop checksum : ℕ) (body : List ℕ)
    → get_or (ipv4_bytes source destination 17 len hop checksum ++ body) 0 0 ≡ 0x45
unfolding ipv4_bytes
sent_first source destination len hop checksum body = refl

sent_total : (source destination : Ipv4Address) (len hop checksum : ℕ) (body : List ℕ) → len + 20 < 65536
    → total_len (ipv4_bytes source destination 17 len hop checksum ++ body) ≡ len + 20
unfolding ipv4_bytes
sent_total source destination len hop checksum body small = from_be_bytes-to_be_bytes_2 (len + 20) small

sent_flags : (source destination : Ipv4Address) (len hop checksum : ℕ) (body : List ℕ)
    → be16_at (ipv4_bytes source destination 17 len hop checksum ++ body) 6 ≡ 0x4000
unfolding ipv4_bytes
sent_flags source destination len hop checksum body = refl

sent_protocol : (source destination : Ipv4Address) (len hop checksum : ℕ) (body : List ℕ)
    → get_or (ipv4_bytes source destination 17 len hop checksum ++ body) 9 0 ≡ 17
unfolding ipv4_bytes
sent_protocol source destination len hop checksum body = refl

sent_source : (source destination : Ipv4Address) (len hop checksum : ℕ) (body : List ℕ) → length source.0 ≡ 4
    → bytes_between 12 16 (ipv4_bytes source destination 17 len hop checksum ++ body) ≡ source.0
unfolding ipv4_bytes
sent_source source destination len hop checksum body four = rw (four_cells source.0 four) refl

sent_destination : (source destination : Ipv4Address) (len hop checksum : ℕ) (body : List ℕ) → length source.0 ≡ 4 → length destination.0 ≡ 4
    → bytes_between 16 20 (ipv4_bytes source destination 17 len hop checksum ++ body) ≡ destination.0
unfolding ipv4_bytes
sent_destination source destination len hop checksum body four also = rw (four_cells source.0 four, four_cells destination.0 also) refl

sent_body : (source destination : Ipv4Address) (len hop checksum : ℕ) (body : List ℕ) → length source.0 ≡ 4 → length destination.0 ≡ 4
    → drop 20 (ipv4_bytes source destination 17 len hop checksum ++ body) ≡ body
unfolding ipv4_bytes
sent_body source destination len hop checksum body four also = rw (four_cells source.0 four, four_cells destination.0 also) refl

sent_header : (source destination : Ipv4Address) (len hop checksum : ℕ) (body : List ℕ) → length source.0 ≡ 4 → length destination.0 ≡ 4
    → take 20 (ipv4_bytes source destination 17 len hop checksum ++ body) ≡ ipv4_bytes source destination 17 len hop checksum
unfolding ipv4_bytes
sent_header source destination len hop checksum body four also = rw (four_cells source.0 four, four_cells destination.0 also) refl

without_twenty : (n : ℕ) → n + 20 - 20 ≡ n
without_twenty n = omega arith

body_is : (packet body : List ℕ) → get_or packet 0 0 ≡ 0x45 → total_len packet ≡ length body + 20 → drop 20 packet ≡ body
    → body_of packet ≡ body
body_is packet body first total rest = rw (first, total, rest, without_twenty (length body)) (take-length body)

-- the UDP datagram that is sent
udp_source : (source destination len checksum : ℕ) (payload : List ℕ) → source < 65536
    → be16_at (udp_bytes source destination len checksum ++ payload) 0 ≡ source
unfolding udp_bytes
udp_source source destination len checksum payload small = from_be_bytes-to_be_bytes_2 source small

udp_destination : (source destination len checksum : ℕ) (payload : List ℕ) → destination < 65536
    → be16_at (udp_bytes source destination len checksum ++ payload) 2 ≡ destination
unfolding udp_bytes
udp_destination source destination len checksum payload small = from_be_bytes-to_be_bytes_2 destination small

udp_len_is : (source destination len checksum : ℕ) (payload : List ℕ) → len < 65536
    → udp_len (udp_bytes source destination len checksum ++ payload) ≡ len
unfolding udp_bytes
udp_len_is source destination len checksum payload small = from_be_bytes-to_be_bytes_2 len small

udp_rest : (source destination len checksum : ℕ) (payload : List ℕ)
    → drop 8 (udp_bytes source destination len checksum ++ payload) ≡ payload
unfolding udp_bytes
udp_rest source destination len checksum payload = refl

udp_length : (source destination len checksum : ℕ) (payload : List ℕ)
    → length (udp_bytes source destination len checksum ++ payload) ≡ length payload + 8
unfolding udp_bytes
udp_length source destination len checksum payload = omega arith

or_true : (b : Bool) → (b || true) ≡ true
or_true true = refl
or_true false = refl

without_eight : (n : ℕ) → n + 8 - 8 ≡ n
without_eight n = omega arith

abbrev datagram_of_parts : Ipv4Address → Ipv4Address → ℕ → ℕ → List ℕ → Datagram
datagram_of_parts source destination source_port destination_port payload = record {
  source = source;
  destination = destination;
  source_port = source_port;
  destination_port = destination_port;
  payload = payload;
}

udp_found : (source destination : Ipv4Address) (body payload : List ℕ) (source_port destination_port : ℕ)
    → length body ≡ length payload + 8 → udp_len body ≡ length payload + 8 → be16_at body 0 ≡ source_port
    → be16_at body 2 ≡ destination_port → drop 8 body ≡ payload
    → SumsToZero (pseudo_header source destination (length payload + 8) ++ body)
    → udp_datagram source destination body ≡ Some (datagram_of_parts source destination source_port destination_port payload)
udp_found source destination body payload source_port destination_port long len from to rest sums =
    let n = length payload + 8 in
    let has : has_udp body ≡ true = rw (len, long, le-leb 8 n (omega arith), le-leb n n (omega arith)) refl in
    let whole : take n body ≡ body = take_all n body (omega (arith, long)) in
    let right : has_right_sum source destination body ≡ true = rw (len, whole, sums) (or_true (eqb (be16_at body 6) 0)) in
    let is_payload : bytes_between 8 (udp_len body) body ≡ payload = rw (len, without_eight (length payload), rest) (take-length payload) in
    rw (has, right, from, to, is_payload) refl

packet_found : (sources : Sources) (packet body : List ℕ) (source destination : Ipv4Address) → is_packet packet ≡ true → is_udp_packet sources packet ≡ true
    → bytes_between 12 16 packet ≡ source.0 → bytes_between 16 20 packet ≡ destination.0 → body_of packet ≡ body
    → packet_datagram sources packet ≡ udp_datagram source destination body
packet_found sources packet body source destination is_whole is_udp from to is_body = rw (is_whole, is_udp, from, to, is_body) refl

frame_found : (sources : Sources) (hardware : EthernetAddress) (frame packet : List ℕ) → has_packet_for hardware frame ≡ true → drop 14 frame ≡ packet
    → carried_datagram sources hardware frame ≡ packet_datagram sources packet
frame_found sources hardware frame packet has rest = rw (has, rest) refl

pub sent_frames_arrive : SentFramesArrive
unfolding ethernet_bytes
sent_frames_arrive sources from to hardware hop_limit d frame from_six to_six wire unicast taken h =
    let n = length d.payload + 8 in
    let header = ipv4_bytes d.source d.destination 17 n hop_limit h.ipv4.checksum in
    let udp = udp_bytes d.source_port d.destination_port n h.udp_checksum in
    let body = udp ++ d.payload in
    let packet = header ++ body in
    let eth = ethernet_bytes to from 0x0800 in
    let is_frame : frame ≡ eth ++ packet =
    h.bytes ∙ rw h.ipv4.bytes (append_assoc (eth ++ header) udp d.payload ∙ append_assoc eth header body) in
    let small : n < 65516 = omega (arith, wire.payload) in
    let long : length body ≡ n = udp_length d.source_port d.destination_port n h.udp_checksum d.payload in
    let total : total_len packet ≡ n + 20 = sent_total d.source d.destination n hop_limit h.ipv4.checksum body (omega arith) in
    let header_long : length header ≡ 20 = sent_len d.source d.destination n hop_limit h.ipv4.checksum wire.source wire.destination in
    let packet_long : length packet ≡ n + 20 = omega (arith, length-append header body) in
    let first = sent_first d.source d.destination n hop_limit h.ipv4.checksum body in
    let source = sent_source d.source d.destination n hop_limit h.ipv4.checksum body wire.source in
    let is_whole = is_whole_packet packet (omega (arith, packet_long)) first (total ∙ sym packet_long) in
    let is_udp = is_right_packet sources packet header d.source first
    (sent_header d.source d.destination n hop_limit h.ipv4.checksum body wire.source wire.destination) h.ipv4.sums
    (sent_flags d.source d.destination n hop_limit h.ipv4.checksum body) source
    (sent_protocol d.source d.destination n hop_limit h.ipv4.checksum body) unicast in
    let is_body = body_is packet body first (total ∙ ap (λ m. m + 20) (sym long))
    (sent_body d.source d.destination n hop_limit h.ipv4.checksum body wire.source wire.destination) in
    let has = is_for_taker hardware to (eth ++ packet) (eth_front to.0 from.0 packet to_six from_six)
    (eth_type to.0 from.0 packet to_six from_six)
    (omega (arith, length-append eth packet, packet_long, length-append (to.0 ++ from.0) (8 ∷ 0 ∷ []), length-append to.0 from.0)) taken in
    rw is_frame
    (frame_found sources hardware (eth ++ packet) packet has (eth_rest to.0 from.0 packet to_six from_six)
    ∙ packet_found sources packet body d.source d.destination is_whole is_udp source
    (sent_destination d.source d.destination n hop_limit h.ipv4.checksum body wire.source wire.destination) is_body
    ∙ udp_found d.source d.destination body d.payload d.source_port d.destination_port long
    (udp_len_is d.source_port d.destination_port n h.udp_checksum d.payload (omega arith))
    (udp_source d.source_port d.destination_port n h.udp_checksum d.payload wire.source_port)
    (udp_destination d.source_port d.destination_port n h.udp_checksum d.payload wire.destination_port)
    (udp_rest d.source_port d.destination_port n h.udp_checksum d.payload)
    (ap (λ bytes. word_sum bytes % 65535) (sym (append_assoc (pseudo_header d.source d.destination n) udp d.payload)) ∙ h.sums))
