-- The order of the parts of a packet: the link, the network layer, its extension headers, the transport layer.
use Rattle.std.proofs.Common.{◌≡◌, ℕ, ◌+◌, ◌<◌, ◌≤◌, Bool, true, false, List, [], ◌∷◌, Option, Some, None, refl, ap, arith}
use Rattle.std.specs.Prelude.{◌==◌, nat_lt, if◌then◌else◌, slice_range, slice_index, option_and_then}
use Rattle.wire_base.specs.Bytes.{be16_at}
use Rattle.ether_link.specs.Form.{or_else, header_len}
use Rattle.ether_link.specs.Layout.{header, IsLayoutFrom, AreNested}
use Rattle.ether_link.specs.LinkGrammar.{is_vlan, is_ip, by_ether_type, by_protocol_type, link_turn}
use Rattle.ether_link.specs.LinuxSll.{protocol_type_of}
use Rattle.ether_link.specs.Macsec.{is_unmodified}
use Rattle.ether_link.specs.Places.{header_at}
use Rattle.ether_link.specs.declared.link.linux_sll.LinuxSllProtocolType.{LinuxSllProtocolType}
use Rattle.ether_link.specs.declared.link.linux_sll.LinuxSllProtocolType.TheVariants as protocol
use Rattle.ether_link.specs.declared.layout.PartKind.{PartKind}
use Rattle.ether_link.specs.declared.layout.PartKind.TheVariants as kind
use Rattle.ether_link.specs.declared.layout.Place.{Place}
use Rattle.ether_link.specs.declared.layout.Stop.{Stop}
use Rattle.ether_link.specs.declared.layout.Turn.{Turn}
use Rattle.ether_link.specs.declared.numbers.EtherType.{EtherType}
use Rattle.ether_link.proofs.FormLemmas.{has_header}
use Rattle.ether_link.proofs.RangeLemmas.{header_is}
use Rattle.ether_ip.specs.ExtensionGrammar.{extension_kind, first_extension_kind, fragmented_behind, turn_to}
use Rattle.ether_ip.specs.IpHeaders.{is_ipv4, number_in, extension_in, is_fragment_in}
use Rattle.ether_ip.specs.PacketGrammar.{packet_grammar, part_turn, transport_kind}
use Rattle.ether_ip.specs.declared.err.packet.SliceError.{SliceError}

-- how far in a part stands, and its successors at least
abbrev pub rank : PartKind → ℕ
rank kind.Ethernet2 = 0
rank kind.LinuxSll = 0
rank kind.Vlan = 1
rank kind.Macsec = 1
rank kind.Arp = 2
rank kind.Ip = 2
rank kind.Ipv4Auth = 4
rank kind.Udp = 5
rank kind.Tcp = 5
rank kind.Icmpv4 = 5
rank kind.Icmpv6 = 5
rank other = 3

abbrev pub behind : PartKind → List ℕ → ℕ
behind kind.Ethernet2 header = 1
behind kind.LinuxSll header = 1
behind kind.Vlan header = 1
behind kind.Macsec header = 1
behind kind.Arp header = 6
behind kind.Ip header = if is_ipv4 header then 4 else 3
behind kind.Ipv4Auth header = 5
behind kind.Udp header = 6
behind kind.Tcp header = 6
behind kind.Icmpv4 header = 6
behind kind.Icmpv6 header = 6
behind other header = 3

abbrev IsFromKind : ℕ → Option PartKind → Type 0
IsFromKind r None = Unit {0}
IsFromKind r (Some part) = r ≤ rank part

abbrev pub IsFrom : ℕ → Option Turn → Type 0
IsFrom r None = Unit {0}
IsFrom r (Some turn) = r ≤ rank turn.kind

either : (b : Bool) (r : ℕ) (x y : Option Turn) → IsFrom r x → IsFrom r y → IsFrom r (if b then x else y)
either true r x y a b = a
either false r x y a b = b

either_kind : (b : Bool) (r : ℕ) (x y : Option PartKind) → IsFromKind r x → IsFromKind r y → IsFromKind r (if b then x else y)
either_kind true r x y a b = a
either_kind false r x y a b = b

ext_turn : (part : PartKind) (held : ℕ) (b : Bool) → 1 ≤ rank part → IsFrom 1 (if b then link_turn part held else None)
ext_turn part held true order = order
ext_turn part held false order = tt

by_type : (held number : ℕ) → IsFrom 1 (by_ether_type held number)
by_type held number =
    either (is_vlan number) 1 _ _ (ext_turn kind.Vlan held (nat_lt held 3) (omega arith))
    (either (number == 0x88e5) 1 _ _ (ext_turn kind.Macsec held (nat_lt held 3) (omega arith))
    (either (number == 0x0806) 1 _ _ (omega arith)
    (either (is_ip number) 1 _ _ (omega arith) tt)))

by_protocol : (answer : Option LinuxSllProtocolType) → IsFrom 1 (by_protocol_type answer)
by_protocol (Some (protocol.EtherType number)) = by_type 0 number.0
by_protocol (Some (protocol.NetlinkProtocolType number)) = tt
by_protocol (Some (protocol.GenericRoutingEncapsulationProtocolType number)) = tt
by_protocol (Some (protocol.Ignored number)) = tt
by_protocol None = tt

from_extension : (number : ℕ) → IsFromKind 3 (extension_kind number)
from_extension number =
    either_kind (number == 0) 3 _ _ (omega arith)
    (either_kind (number == 43) 3 _ _ (omega arith)
    (either_kind (number == 44) 3 _ _ (omega arith)
    (either_kind (number == 60) 3 _ _ (omega arith)
    (either_kind (number == 51) 3 _ _ (omega arith) tt))))

from_first : (number : ℕ) → IsFromKind 3 (first_extension_kind number)
from_first number = either_kind (number == 0) 3 _ _ (omega arith) (from_extension number)

from_transport : (number : ℕ) → IsFromKind 5 (transport_kind number)
from_transport number =
    either_kind (number == 1) 5 _ _ (omega arith)
    (either_kind (number == 17) 5 _ _ (omega arith)
    (either_kind (number == 6) 5 _ _ (omega arith)
    (either_kind (number == 58) 5 _ _ (omega arith) tt)))

turned : (r count : ℕ) (fragmented : Bool) (part : Option PartKind) → IsFromKind r part → IsFrom r (turn_to count fragmented part)
turned r count fragmented None from = tt
turned r count fragmented (Some part) from = from

lower : (r s : ℕ) (part : Option PartKind) → r ≤ s → IsFromKind s part → IsFromKind r part
lower r s None order from = tt
lower r s (Some part) order from = omega arith

first_turn : (r : ℕ) (x y : Option Turn) → IsFrom r x → IsFrom r y → IsFrom r (or_else x y)
first_turn r None y a b = b
first_turn r (Some turn) y a b = a

by_number : (r count : ℕ) (fragmented : Bool) (extension : Option PartKind) (number : ℕ) → r ≤ 5 → IsFromKind r extension
    → IsFrom r (part_turn count fragmented extension number)
by_number r count fragmented extension number order from =
    first_turn r (turn_to count fragmented extension) (if fragmented then None else turn_to count false (transport_kind number))
    (turned r count fragmented extension from)
    (either fragmented r None (turn_to count false (transport_kind number)) tt
    (turned r count false (transport_kind number) (lower r 5 (transport_kind number) order (from_transport number))))

secured_turn : (count number : ℕ) (b : Bool)
    → IsFrom 1 (option_and_then (λ (ether_type : EtherType). by_ether_type count ether_type.0)
    (if b then Some (record { 0 = number }) else None))
secured_turn count number true = by_type count number
secured_turn count number false = tt

by_version : (count : ℕ) (bytes : List ℕ) (b : Bool) → is_ipv4 bytes ≡ b
    → IsFrom (if b then 4 else 3) (part_turn count (is_fragment_in bytes) (extension_in bytes) (number_in bytes))
by_version count bytes true is =
    by_number 4 count (is_fragment_in bytes) (extension_in bytes) (number_in bytes) (omega arith)
    (rw is (either_kind (slice_index bytes 9 == 51) 4 _ _ (omega arith) tt))
by_version count bytes false is =
    by_number 3 count (is_fragment_in bytes) (extension_in bytes) (number_in bytes) (omega arith)
    (rw is (from_first (slice_index bytes 6)))

pub next_from : (part : PartKind) (count : ℕ) (fragmented : Bool) (bytes : List ℕ)
    → IsFrom (behind part bytes) (packet_grammar.next (record { kind = part; link_exts = count; fragmented = fragmented }) bytes)
next_from kind.Ethernet2 count fragmented bytes = by_type 0 (be16_at bytes 12)
next_from kind.LinuxSll count fragmented bytes = by_protocol (protocol_type_of (be16_at bytes 2) (be16_at bytes 14))
next_from kind.Vlan count fragmented bytes = by_type (count + 1) (be16_at bytes 2)
next_from kind.Macsec count fragmented bytes = secured_turn (count + 1) _ (is_unmodified bytes)
next_from kind.Arp count fragmented bytes = tt
next_from kind.Ip count fragmented bytes = by_version count bytes (is_ipv4 bytes) refl
next_from kind.Udp count fragmented bytes = tt
next_from kind.Tcp count fragmented bytes = tt
next_from kind.Icmpv4 count fragmented bytes = tt
next_from kind.Icmpv6 count fragmented bytes = tt
next_from kind.Fragment count fragmented bytes =
    by_number 3 count (fragmented_behind kind.Fragment fragmented bytes) (extension_kind (slice_index bytes 0)) (slice_index bytes 0) (omega arith)
    (from_extension (slice_index bytes 0))
next_from kind.Ipv4Auth count fragmented bytes = by_number 5 count fragmented None (slice_index bytes 0) (omega arith) tt
next_from other count fragmented bytes =
    by_number 3 count fragmented (extension_kind (slice_index bytes 0)) (slice_index bytes 0) (omega arith) (from_extension (slice_index bytes 0))

-- a part in its window, not before its rank
pub record IsPart (frame : List ℕ) (r start end : ℕ) (p : Place) : Type 0 where
  pub ranked : r ≤ rank p.kind
  pub begins : p.start ≡ start
  pub body : p.body ≡ start + header_len (packet_grammar.form_of p.kind) (slice_range frame start end)
  pub order : start < p.body
  pub window : p.body ≤ p.end
  pub within : p.end ≤ end

abbrev pub AreParts : List ℕ → ℕ → ℕ → ℕ → List Place → Type 0
AreParts frame r start end [] = Unit {0}
AreParts frame r start end (p ∷ ps) = IsPart frame r start end p × AreParts frame (behind p.kind (header_at frame p)) p.body p.end ps

-- the parts of a layout are in order
pub are_parts : (frame : List ℕ) (places : List Place) (turn : Option Turn) (r start end : ℕ) (stop : Option (Stop SliceError)) → IsFrom r turn
    → IsLayoutFrom packet_grammar frame turn start end places stop → AreNested start end places → AreParts frame r start end places
are_parts frame [] turn r start end stop from right inside = tt
are_parts frame (p ∷ ps) None r start end stop from right inside = absurd right
are_parts frame (p ∷ ps) (Some turn) r start end stop from right inside =
    let at_kind : p.kind ≡ turn.kind = ap (λ (q : Place). q.kind) right.1 in
    let at_body : p.body ≡ start + header_len (packet_grammar.form_of turn.kind) (slice_range frame start end) = ap (λ (q : Place). q.body) right.1 in
    let there = has_header (packet_grammar.form_of turn.kind) (slice_range frame start end) right.0 in
    let front = header_is frame start end (header_len (packet_grammar.form_of turn.kind) (slice_range frame start end)) there in
    let same_header : header packet_grammar turn.kind (slice_range frame start end) ≡ header_at frame p = rw (inside.0, at_body) front in
    let next = next_from turn.kind turn.link_exts turn.fragmented (header packet_grammar turn.kind (slice_range frame start end)) in
    let rest = are_parts frame ps (packet_grammar.next turn (header packet_grammar turn.kind (slice_range frame start end)))
    (behind turn.kind (header packet_grammar turn.kind (slice_range frame start end))) p.body p.end stop next right.2 inside.4 in
    let moved : AreParts frame (behind p.kind (header_at frame p)) p.body p.end ps = rw (at_kind, ← same_header) rest in (
      record {
        ranked = rw at_kind from;
        begins = inside.0;
        body = rw at_kind at_body;
        order = inside.1;
        window = inside.2;
        within = inside.3;
      },
      moved,
    )
