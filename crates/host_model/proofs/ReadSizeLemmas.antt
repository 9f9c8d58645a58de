-- Addresses that are read have their bytes.
use Rattle.std.proofs.Common.{◌≡◌, ℕ, ◌/◌, ◌≤◌, true, nat_le, nat_eq, List, Option, Some, None, length, drop, arith}
use Rattle.std.specs.Prelude.{⊤, ◌==◌, ◌&&◌, slice_index}
use Rattle.std.proofs.lemmas.Bool.{and_parts, cond_both, leb-true}
use Rattle.std.specs.Cmp.Lexicographic.{pointwise}
use Rattle.wire_base.specs.Bytes.{bytes_between, be16_at, be32_at}
use Rattle.net_wire.specs.declared.address.EthernetAddress.{EthernetAddress}
use Rattle.net_wire.specs.declared.arp.ArpRepr.{ArpRepr}
use Rattle.net_wire.specs.Arp.{arp_at, arp_spaces, arriving_arp, has_arp, is_from_host}
use Rattle.net_wire.specs.declared.arrival.Sources.TheVariants.{Unicast}
use Rattle.net_wire.specs.Arrival.{arriving_datagram, body_of, datagram_with, has_packet_for, has_right_sum, has_udp, ip_header_len, is_for, is_packet, is_udp_packet, packet_datagram, total_len, udp_datagram}
use Rattle.net_wire.specs.Datagram.{Datagram}
use Rattle.net_wire.specs.DhcpBytes.{op_of}
use Rattle.net_wire.specs.DhcpMessage.{Message}
use Rattle.net_wire.specs.DhcpOptions.{Item, items_of, last_of}
use Rattle.net_wire.specs.DhcpRead.{address_at, byte_in, is_header, message_at, message_of_items, message_of_type, message_with}
use Rattle.net_wire.specs.DhcpReadBack.{HasFour}
use Rattle.dhcp_client.specs.Heard.{servers_in}
use Rattle.host_model.specs.Sizes.{HasSix}
use Rattle.host_model.proofs.AddressSizeLemmas.{HasFourIn, HaveFour, four_at, four_in, length-between, servers_fours}

-- those of a message that a client goes by
pub record HasFours (message : Message) : Type 0 where
  pub your_ip : HasFour message.your_ip
  pub router : HasFourIn message.router
  pub servers : HaveFour (servers_in message.dns_servers)
  pub server_identifier : HasFourIn message.server_identifier

abbrev pub HasFoursIn : Option Message → Type 0
HasFoursIn None = ⊤
HasFoursIn (Some message) = HasFours message

typed_fours : (bytes : List ℕ) (items : List Item) (found : Option ℕ) → 240 ≤ length bytes
    → HasFoursIn (message_of_type bytes items found)
typed_fours bytes items None long = tt
typed_fours bytes items (Some number) long =
    cond_both (slice_index bytes 0 == op_of number) (Some (message_with bytes items number)) None HasFoursIn
    (λ right. record {
      your_ip = four_at bytes 16 (omega (arith, long));
      router = four_in (last_of 3 items);
      servers = servers_fours (last_of 6 items);
      server_identifier = four_in (last_of 54 items);
    })
    (λ wrong. tt)

long_header : (bytes : List ℕ) → is_header bytes ≡ true → 240 ≤ length bytes
long_header bytes is =
    let long = nat_le 240 (length bytes) in
    let ethernet = slice_index bytes 1 == 1 in
    let six = slice_index bytes 2 == 6 in
    let cookie = be32_at bytes 236 == 0x63825363 in
    let all_but_cookie = and_parts (long && ethernet && six) cookie is in
    leb-true 240 (length bytes)
    (and_parts long ethernet (and_parts (long && ethernet) six all_but_cookie.0).0).0

pub message_fours : (bytes : List ℕ) → HasFoursIn (message_at bytes)
message_fours bytes =
    let items = items_of (drop 240 bytes) in
    cond_both (is_header bytes) (message_of_items bytes items) None HasFoursIn
    (λ is. typed_fours bytes items (byte_in (last_of 53 items)) (long_header bytes is))
    (λ none. tt)

-- and the source of a datagram that arrives
abbrev pub HasFourSource : Option Datagram → Type 0
HasFourSource None = ⊤
HasFourSource (Some datagram) = HasFour datagram.source

long_packet : (packet : List ℕ) → is_packet packet ≡ true → 20 ≤ length packet
long_packet packet is =
    let long = nat_le 20 (length packet) in
    let four = slice_index packet 0 / 16 == 4 in
    let header = nat_le 20 (ip_header_len packet) in
    let before_end = nat_le (ip_header_len packet) (total_len packet) in
    let all_there = nat_le (total_len packet) (length packet) in
    let to_end = and_parts (long && four && header && before_end) all_there is in
    let to_total = and_parts (long && four && header) before_end to_end.0 in
    leb-true 20 (length packet) (and_parts long four (and_parts (long && four) header to_total.0).0).0

pub source_four : (hardware : EthernetAddress) (frame : List ℕ)
    → HasFourSource (arriving_datagram hardware frame)
source_four hardware frame =
    let packet = drop 14 frame in
    let source = address_at packet 12 in
    let destination = address_at packet 16 in
    let body = body_of packet in
    cond_both (has_packet_for hardware frame) (packet_datagram Unicast packet) None HasFourSource
    (λ for_it.
    cond_both (is_packet packet && is_udp_packet Unicast packet) (udp_datagram source destination body) None
    HasFourSource
    (λ is. cond_both (has_udp body && has_right_sum source destination body)
    (Some (datagram_with source destination body)) None HasFourSource
    (λ right. four_at packet 12
    (omega (arith, long_packet packet (and_parts (is_packet packet) (is_udp_packet Unicast packet) is).0)))
    (λ wrong. tt))
    (λ none. tt))
    (λ other. tt)

-- and those of the sender of an ARP packet that counts
abbrev pub HasSender : Option ArpRepr → Type 0
HasSender None = ⊤
HasSender (Some arp) = HasSix arp.source_hardware_addr × HasFour arp.source_protocol_addr

long_arp : (frame : List ℕ) → has_arp frame ≡ true → 42 ≤ length frame
long_arp frame is =
    let long = nat_le 42 (length frame) in
    let type = be16_at frame 12 == 0x0806 in
    let spaces = pointwise nat_eq (bytes_between 14 20 frame) arp_spaces in
    leb-true 42 (length frame) (and_parts long type (and_parts (long && type) spaces is).0).0

pub sender_sized : (hardware : EthernetAddress) (frame : List ℕ) → HasSender (arriving_arp hardware frame)
sender_sized hardware frame =
    let whole = has_arp frame in
    let for_it = is_for hardware frame in
    let from = is_from_host (arp_at frame) in
    cond_both (whole && for_it && from) (Some (arp_at frame)) None HasSender
    (λ counts.
    let is = and_parts whole for_it (and_parts (whole && for_it) from counts).0 in
    let long : 42 ≤ length frame = long_arp frame is.0 in
    (length-between frame 22 28 (omega arith) (omega (arith, long)), four_at frame 28 (omega (arith, long))))
    (λ none. tt)
