-- A frame of an Ethernet, an IPv4 and a UDP header that fit its payload is cut into these.
use Rattle.std.proofs.Common.{◌≡◌, ℕ, ◌+◌, ◌≤◌, false, List, [], ◌∷◌, ◌++◌, length, take, get_or, Some, None, refl, ◌∙◌, arith, length-append}
use Rattle.std.specs.Prelude.{nat_lt, slice_range}
use Rattle.std.proofs.lemmas.Bool.Decides.{nat_tests}
use Rattle.std.proofs.lemmas.List.{get_or-take, get_or_append_left, append_assoc}
use Rattle.wire_base.specs.Bytes.{be16_at}
use Rattle.ether_link.specs.Form.{header_len, refusal}
use Rattle.ether_link.specs.Layout.{window_end, IsLayoutFrom}
use Rattle.ether_link.specs.declared.layout.PartKind.{PartKind}
use Rattle.ether_link.specs.declared.layout.PartKind.TheVariants.{Ethernet2, Ip, Udp}
use Rattle.ether_link.specs.declared.layout.Turn.{Turn}
use Rattle.ether_ip.specs.Ipv4.{is_ipv4_fragment}
use Rattle.ether_ip.specs.PacketGrammar.{packet_grammar}
use Rattle.frame_laws.specs.SentParts.{ipv4_place, udp_place, datagram_places, IsEthernetLayout}
use Rattle.frame_laws.proofs.PartLemmas.{rest_of, front_of, between_of, one_part}

-- the headers say what is behind them
pub record AreHeaders (ethernet ip udp payload : List ℕ) : Type 0 where
  pub ethernet_len : length ethernet ≡ 14
  pub ip_len : length ip ≡ 20
  pub udp_len : length udp ≡ 8
  pub ether_type : be16_at ethernet 12 ≡ 0x0800
  pub version : get_or ip 0 0 ≡ 0x45
  pub total_len : be16_at ip 2 ≡ length payload + 28
  pub whole : is_ipv4_fragment ip ≡ false
  pub protocol : get_or ip 9 0 ≡ 17
  pub datagram_len : be16_at udp 4 ≡ length payload + 8

pub ethernet_accepted : (bytes : List ℕ) → 14 ≤ length bytes → refusal (packet_grammar.form_of Ethernet2) bytes ≡ None
ethernet_accepted bytes room =
    let enough : nat_lt (length bytes) 14 ≡ false = grind (arith, nat_tests) in
    rw enough refl

udp_accepted : (bytes : List ℕ) → 8 ≤ length bytes → refusal (packet_grammar.form_of Udp) bytes ≡ None
udp_accepted bytes room =
    let enough : nat_lt (length bytes) 8 ≡ false = grind (arith, nat_tests) in
    rw enough refl

first_byte : (bytes : List ℕ) → get_or (take 1 bytes) 0 0 ≡ get_or bytes 0 0
first_byte bytes = get_or-take 1 bytes 0 0 (omega arith)

ip_accepted : (bytes : List ℕ) → 20 ≤ length bytes → get_or bytes 0 0 ≡ 0x45 → refusal (packet_grammar.form_of Ip) bytes ≡ None
ip_accepted bytes room version =
    let first : nat_lt (length bytes) 1 ≡ false = grind (arith, nat_tests) in
    let enough : nat_lt (length bytes) 20 ≡ false = grind (arith, nat_tests) in
    rw (first_byte bytes, version, first, enough) refl

ip_header_len : (bytes : List ℕ) → get_or bytes 0 0 ≡ 0x45 → header_len (packet_grammar.form_of Ip) bytes ≡ 20
ip_header_len bytes version = rw (first_byte bytes, version) refl

module _ (ethernet ip udp payload : List ℕ) (headers : AreHeaders ethernet ip udp payload) where
  abbrev pub frame : List ℕ
  frame = ethernet ++ (ip ++ (udp ++ payload))

  frame_len : length frame ≡ length payload + 42
  frame_len = omega (arith, length-append ethernet (ip ++ (udp ++ payload)), length-append ip (udp ++ payload), length-append udp payload, headers.ethernet_len, headers.ip_len, headers.udp_len)

  ip_window : slice_range frame 14 (length frame) ≡ ip ++ (udp ++ payload)
  ip_window = rest_of ethernet (ip ++ (udp ++ payload)) 14 headers.ethernet_len

  two_len : length (ethernet ++ ip) ≡ 34
  two_len = omega (arith, length-append ethernet ip, headers.ethernet_len, headers.ip_len)

  udp_window : slice_range frame 34 (length frame) ≡ udp ++ payload
  udp_window =
      let same : (ethernet ++ ip) ++ (udp ++ payload) ≡ frame = append_assoc ethernet ip (udp ++ payload) in
      let behind = rest_of (ethernet ++ ip) (udp ++ payload) 34 two_len in
      rw same at behind

  three_len : length (ethernet ++ ip ++ udp) ≡ 42
  three_len = omega (arith, length-append (ethernet ++ ip) udp, two_len, headers.udp_len)

  pub payload_window : slice_range frame 42 (length frame) ≡ payload
  payload_window =
      let same : ethernet ++ ip ++ udp ++ payload ≡ frame = append_assoc (ethernet ++ ip) udp payload ∙ append_assoc ethernet ip (udp ++ payload) in
      let behind = rest_of (ethernet ++ ip ++ udp) payload 42 three_len in
      rw same at behind

  pub ethernet_at : slice_range frame 0 14 ≡ ethernet
  ethernet_at = between_of [] ethernet (ip ++ (udp ++ payload)) 0 14 refl (omega (arith, headers.ethernet_len))

  pub ip_at : slice_range frame 14 34 ≡ ip
  ip_at = between_of ethernet ip (udp ++ payload) 14 34 headers.ethernet_len (omega (arith, headers.ip_len))

  pub udp_at : slice_range frame 34 42 ≡ udp
  udp_at =
      let same : (ethernet ++ ip) ++ (udp ++ payload) ≡ frame = append_assoc ethernet ip (udp ++ payload) in
      let there = between_of (ethernet ++ ip) udp payload 34 42 two_len (omega (arith, headers.udp_len)) in
      rw same at there

  ip_ends : window_end 14 (length frame) (packet_grammar.announced Ip ip) ≡ length frame
  ip_ends =
      let room : nat_lt (length payload + 28) 20 ≡ false = grind (arith, nat_tests) in
      rw (headers.version, headers.total_len, headers.ip_len, room) (omega (arith, frame_len))

  udp_ends : window_end 34 (length frame) (packet_grammar.announced Udp udp) ≡ length frame
  udp_ends =
      let room : nat_lt (length payload + 8) 8 ≡ false = grind (arith, nat_tests) in
      rw (headers.datagram_len, room) (omega (arith, frame_len))

  abbrev turn_of : PartKind → Turn
  turn_of kind = record { kind = kind; link_exts = 0; fragmented = false }

  ip_named : packet_grammar.next (turn_of Ethernet2) ethernet ≡ Some (turn_of Ip)
  ip_named = rw headers.ether_type refl

  udp_named : packet_grammar.next (turn_of Ip) ip ≡ Some (turn_of Udp)
  udp_named = rw (headers.version, headers.whole, headers.protocol) refl

  udp_layout : IsLayoutFrom packet_grammar frame (Some (turn_of Udp)) 34 (length frame) (udp_place (length frame) ∷ []) None
  udp_layout =
      let header = front_of udp payload 8 headers.udp_len in
      one_part packet_grammar frame (turn_of Udp) 34 42 (length frame) (udp ++ payload) None [] None 8
      udp_window (udp_accepted (udp ++ payload) (omega (arith, length-append udp payload, headers.udp_len))) refl refl
      (rw header udp_ends) refl refl

  ip_layout : IsLayoutFrom packet_grammar frame (Some (turn_of Ip)) 14 (length frame) (ipv4_place (length frame) ∷ udp_place (length frame) ∷ []) None
  ip_layout =
      let bytes = ip ++ (udp ++ payload) in
      let header = front_of ip (udp ++ payload) 20 headers.ip_len in
      let room : 20 ≤ length (ip ++ (udp ++ payload)) = omega (arith, length-append ip (udp ++ payload), headers.ip_len) in
      let first : get_or (ip ++ (udp ++ payload)) 0 0 ≡ 0x45 = get_or_append_left ip (udp ++ payload) 0 0 (omega (arith, headers.ip_len)) ∙ headers.version in
      one_part packet_grammar frame (turn_of Ip) 14 34 (length frame) (ip ++ (udp ++ payload)) (Some (turn_of Udp)) (udp_place (length frame) ∷ []) None 20
      ip_window (ip_accepted (ip ++ (udp ++ payload)) room first) (ip_header_len (ip ++ (udp ++ payload)) first) refl
      (rw header ip_ends) (rw header udp_named) udp_layout

  pub layout : IsEthernetLayout frame (datagram_places (length frame)) None
  layout =
      let header = front_of ethernet (ip ++ (udp ++ payload)) 14 headers.ethernet_len in
      let room : 14 ≤ length frame = omega (arith, frame_len) in
      one_part packet_grammar frame (turn_of Ethernet2) 0 14 (length frame) frame (Some (turn_of Ip)) (ipv4_place (length frame) ∷ udp_place (length frame) ∷ []) None 14
      (rest_of [] frame 0 refl) (ethernet_accepted frame room) refl refl refl (rw header ip_named) ip_layout
