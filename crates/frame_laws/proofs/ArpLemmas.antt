-- The frame that carries an ARP packet is cut into it.
use Rattle.std.proofs.Common.{◌≡◌, ℕ, lit<, ◌+◌, ◌^◌, ◌<◌, ◌≤◌, false, List, [], ◌∷◌, ◌++◌, length, take, get_or, Some, None, refl, sym, ap, ◌∙◌, subst, arith, length-append}
use Rattle.std.specs.Prelude.{nat_lt, slice_range}
use Rattle.std.specs.Int.{to_be_bytes, w16}
use Rattle.std.proofs.lemmas.Bool.Decides.{nat_tests}
use Rattle.std.proofs.lemmas.List.{get_or-take, get_or_append_left, append_assoc}
use Rattle.std.proofs.lemmas.Nat.{from_be_bytes-to_be_bytes_2}
use Rattle.wire_base.specs.Bytes.{be16_at}
use Rattle.net_wire.specs.Datagram.{ethernet_bytes}
use Rattle.net_wire.specs.Arp.{arp_spaces, arp_bytes, arp_frame_bytes}
use Rattle.net_wire.specs.declared.address.EthernetAddress.{EthernetAddress}
use Rattle.net_wire.specs.declared.arp.ArpRepr.{ArpRepr}
use Rattle.ether_link.specs.Form.{header_len, refusal}
use Rattle.ether_link.specs.Layout.{window_end, IsLayoutFrom}
use Rattle.ether_link.specs.LinkGrammar.{link_turn}
use Rattle.ether_link.specs.Arp.{arp_packet}
use Rattle.ether_link.specs.Ethernet2.{ethernet2_header}
use Rattle.ether_link.specs.declared.layout.PartKind.{PartKind}
use Rattle.ether_link.specs.declared.layout.PartKind.TheVariants.{Ethernet2, Arp}
use Rattle.ether_link.specs.declared.layout.Turn.{Turn}
use Rattle.ether_link.specs.declared.link.arp.ArpPacket.{ArpPacket}
use Rattle.ether_link.proofs.LayoutLemmas.{one}
use Rattle.ether_ip.specs.PacketGrammar.{packet_grammar}
use Rattle.frame_laws.specs.SentParts.{ethernet_place, sent_ethernet, IsEthernetLayout}
use Rattle.frame_laws.specs.SentArp.{arp_place, sent_arp, IsCutIntoArp, IsArpCutAsSent}
use Rattle.frame_laws.proofs.PartLemmas.{rest_of, front_of, between_of, one_part, by_four, by_six}
use Rattle.frame_laws.proofs.HeaderLemmas.{ethernet_facts}
use Rattle.frame_laws.proofs.DatagramLemmas.{ethernet_accepted}

-- the packet by its operation and its four addresses
abbrev packet : ℕ → List ℕ → List ℕ → List ℕ → List ℕ → List ℕ
packet operation sender host target wanted = arp_spaces ++ to_be_bytes w16 operation ++ sender ++ host ++ target ++ wanted

abbrev fields_of : List ℕ → List ℕ → List ℕ → List ℕ → ℕ → ArpPacket
fields_of sender host target wanted operation = record {
  hw_addr_type = record { 0 = 1 };
  proto_addr_type = record { 0 = 0x0800 };
  operation = record { 0 = operation };
  sender_hw_addr = record { items = sender };
  sender_protocol_addr = record { items = host };
  target_hw_addr = record { items = target };
  target_protocol_addr = record { items = wanted };
}

record ArpFacts (operation : ℕ) (sender host target wanted : List ℕ) : Type 0 where
  len : length (packet operation sender host target wanted) ≡ 28
  sizes : (get_or (packet operation sender host target wanted) 4 0 ≡ 6) × (get_or (packet operation sender host target wanted) 5 0 ≡ 4)
  fields : arp_packet (packet operation sender host target wanted) ≡ fields_of sender host target wanted operation

module _ (operation : ℕ) (fits : operation < 2 ^ 16) where
  facts_of : (a b c d e f g h i j k l m n o p q r s t : ℕ)
      → ArpFacts operation (a ∷ b ∷ c ∷ d ∷ e ∷ f ∷ []) (g ∷ h ∷ i ∷ j ∷ []) (k ∷ l ∷ m ∷ n ∷ o ∷ p ∷ []) (q ∷ r ∷ s ∷ t ∷ [])
  facts_of a b c d e f g h i j k l m n o p q r s t =
      let sender = a ∷ b ∷ c ∷ d ∷ e ∷ f ∷ [] in
      let host = g ∷ h ∷ i ∷ j ∷ [] in
      let target = k ∷ l ∷ m ∷ n ∷ o ∷ p ∷ [] in
      let wanted = q ∷ r ∷ s ∷ t ∷ [] in
      let operation_is : be16_at (packet operation sender host target wanted) 6 ≡ operation = from_be_bytes-to_be_bytes_2 operation fits in
      record { len = refl; sizes = (refl, refl); fields = ap (fields_of sender host target wanted) operation_is }

  arp_facts : (sender host target wanted : List ℕ) → length sender ≡ 6 → length host ≡ 4 → length target ≡ 6 → length wanted ≡ 4
      → ArpFacts operation sender host target wanted
  arp_facts sender host target wanted six four six_too four_too =
      by_six (λ bytes. ArpFacts operation bytes host target wanted)
      (λ a b c d e f. by_four (λ bytes. ArpFacts operation (a ∷ b ∷ c ∷ d ∷ e ∷ f ∷ []) bytes target wanted)
      (λ g h i j. by_six (λ bytes. ArpFacts operation (a ∷ b ∷ c ∷ d ∷ e ∷ f ∷ []) (g ∷ h ∷ i ∷ j ∷ []) bytes wanted)
      (λ k l m n o p. by_four (λ bytes. ArpFacts operation (a ∷ b ∷ c ∷ d ∷ e ∷ f ∷ []) (g ∷ h ∷ i ∷ j ∷ []) (k ∷ l ∷ m ∷ n ∷ o ∷ p ∷ []) bytes)
      (λ q r s t. facts_of a b c d e f g h i j k l m n o p q r s t) wanted four_too) target six_too) host four) sender six

module _ (bytes : List ℕ) (hardware : get_or bytes 4 0 ≡ 6) (protocol : get_or bytes 5 0 ≡ 4) where
  hardware_size : get_or (take 8 bytes) 4 0 ≡ 6
  hardware_size = get_or-take 8 bytes 4 0 (omega arith) ∙ hardware

  protocol_size : get_or (take 8 bytes) 5 0 ≡ 4
  protocol_size = get_or-take 8 bytes 5 0 (omega arith) ∙ protocol

  arp_len : header_len (packet_grammar.form_of Arp) bytes ≡ 28
  arp_len = rw (hardware_size, protocol_size) refl

  arp_accepted : 28 ≤ length bytes → refusal (packet_grammar.form_of Arp) bytes ≡ None
  arp_accepted room =
      let first : nat_lt (length bytes) 8 ≡ false = grind (arith, nat_tests) in
      let enough : nat_lt (length bytes) 28 ≡ false = grind (arith, nat_tests) in
      rw (hardware_size, protocol_size, first, enough) refl

-- a header and a packet that it names, one behind the other
module _ (ethernet sent behind : List ℕ) (ethernet_len : length ethernet ≡ 14) (ether_type : be16_at ethernet 12 ≡ 0x0806)
    (sent_len : length sent ≡ 28) (hardware : get_or sent 4 0 ≡ 6) (protocol : get_or sent 5 0 ≡ 4) where
  abbrev frame : List ℕ
  frame = ethernet ++ (sent ++ behind)

  frame_len : length frame ≡ length behind + 42
  frame_len = omega (arith, length-append ethernet (sent ++ behind), length-append sent behind, ethernet_len, sent_len)

  abbrev turn_of : PartKind → Turn
  turn_of kind = record { kind = kind; link_exts = 0; fragmented = false }

  arp_named : packet_grammar.next (turn_of Ethernet2) ethernet ≡ Some (turn_of Arp)
  arp_named = rw ether_type refl

  arp_ends : window_end 14 (length frame) (packet_grammar.announced Arp sent) ≡ 42
  arp_ends = rw sent_len (omega (arith, frame_len))

  arp_layout : IsLayoutFrom packet_grammar frame (Some (turn_of Arp)) 14 (length frame) (arp_place ∷ []) None
  arp_layout =
      let header = front_of sent behind 28 sent_len in
      let room : 28 ≤ length (sent ++ behind) = omega (arith, length-append sent behind, sent_len) in
      let of_hardware : get_or (sent ++ behind) 4 0 ≡ 6 = get_or_append_left sent behind 0 4 (omega (arith, sent_len)) ∙ hardware in
      let of_protocol : get_or (sent ++ behind) 5 0 ≡ 4 = get_or_append_left sent behind 0 5 (omega (arith, sent_len)) ∙ protocol in
      one_part packet_grammar frame (turn_of Arp) 14 42 42 (sent ++ behind) None [] None 28
      (rest_of ethernet (sent ++ behind) 14 ethernet_len) (arp_accepted (sent ++ behind) of_hardware of_protocol room)
      (arp_len (sent ++ behind) of_hardware of_protocol) refl (rw header arp_ends) refl refl

  layout : IsEthernetLayout frame (ethernet_place (length frame) ∷ arp_place ∷ []) None
  layout =
      let header = front_of ethernet (sent ++ behind) 14 ethernet_len in
      let room : 14 ≤ length frame = omega (arith, frame_len) in
      one_part packet_grammar frame (turn_of Ethernet2) 0 14 (length frame) frame (Some (turn_of Arp)) (arp_place ∷ []) None 14
      (rest_of [] frame 0 refl) (ethernet_accepted frame room) refl refl refl (rw header arp_named) arp_layout

  ethernet_at : slice_range frame 0 14 ≡ ethernet
  ethernet_at = between_of [] ethernet (sent ++ behind) 0 14 refl (omega (arith, ethernet_len))

  arp_at : slice_range frame 14 42 ≡ sent
  arp_at = between_of ethernet sent behind 14 42 ethernet_len (omega (arith, sent_len))

  -- with the fields of both
  cut : (from to : EthernetAddress) (arp : ArpRepr) → ethernet2_header ethernet ≡ sent_ethernet from to 0x0806
      → arp_packet sent ≡ sent_arp arp → IsCutIntoArp from to arp (ethernet ++ (sent ++ behind))
  cut from to arp first second = record {
    layout = layout;
    only = λ places stop right. one packet_grammar (ethernet ++ (sent ++ behind)) (link_turn Ethernet2 0) 0
        (length (ethernet ++ (sent ++ behind))) places (ethernet_place (length (ethernet ++ (sent ++ behind))) ∷ arp_place ∷ []) stop _ right layout;
    ethernet = ap ethernet2_header ethernet_at ∙ first;
    packet = ap arp_packet arp_at ∙ second;
  }

as_parts : (from to : EthernetAddress) (arp : ArpRepr) (behind : List ℕ) → arp_frame_bytes from to arp ++ behind
    ≡ to.0 ++ from.0 ++ to_be_bytes w16 0x0806 ++ packet arp.operation arp.source_hardware_addr.0 arp.source_protocol_addr.0 arp.target_hardware_addr.0 arp.target_protocol_addr.0 ++ behind
unfolding arp_frame_bytes arp_bytes ethernet_bytes
as_parts from to arp behind = refl

pub arp_cut_as_sent : IsArpCutAsSent
arp_cut_as_sent from to arp behind six six_too wire =
    let ethernet = to.0 ++ from.0 ++ to_be_bytes w16 0x0806 in
    let sent = packet arp.operation arp.source_hardware_addr.0 arp.source_protocol_addr.0 arp.target_hardware_addr.0 arp.target_protocol_addr.0 in
    let first = ethernet_facts 0x0806 (lit< tt) to.0 from.0 six_too six in
    let second = arp_facts arp.operation wire.operation arp.source_hardware_addr.0 arp.source_protocol_addr.0 arp.target_hardware_addr.0 arp.target_protocol_addr.0
    wire.source_hardware wire.source_protocol wire.target_hardware wire.target_protocol in
    let is : arp_frame_bytes from to arp ++ behind ≡ ethernet ++ (sent ++ behind) = as_parts from to arp behind ∙ append_assoc ethernet sent behind in
    let P : List ℕ → Type 0 = λ bytes. IsCutIntoArp from to arp bytes in
    subst P (sym is) (cut ethernet sent behind first.len first.ether_type second.len second.sizes.0 second.sizes.1 from to arp first.fields second.fields)
