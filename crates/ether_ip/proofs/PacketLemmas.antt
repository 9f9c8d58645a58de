-- The parts of a packet are in order, and can be cut.
use Rattle.std.proofs.Common.{◌≡◌, ℕ, ◌+◌, ◌<◌, ◌≤◌, Bool, true, false, cond, List, length, take, get_or, Some, None, refl, arith}
use Rattle.std.specs.Prelude.{◌≢◌, ◌==◌, nat_lt}
use Rattle.std.proofs.lemmas.Bool.Decides.{nat_tests}
use Rattle.std.proofs.lemmas.List.{length-take-le, get_or-take}
use Rattle.wire_base.specs.Bytes.{be16_at}
use Rattle.ether_link.specs.Form.{header_len, refusal}
use Rattle.ether_link.specs.Layout.{IsOrderly, header}
use Rattle.ether_link.specs.Cut.{IsCuttable}
use Rattle.ether_link.specs.declared.layout.PartKind.{PartKind}
use Rattle.ether_link.specs.declared.layout.PartKind.TheVariants as kind
use Rattle.ether_link.specs.declared.layout.Turn.{Turn}
use Rattle.ether_link.proofs.FormLemmas.{has_header}
use Rattle.ether_link.proofs.LinkLemmas.{orderly_link}
use Rattle.ether_ip.specs.Version.{ip_version}
use Rattle.ether_ip.specs.Ip.{ip_form}
use Rattle.ether_ip.specs.IpWindow.{ip_announced}
use Rattle.ether_ip.specs.PacketGrammar.{ip_grammar, packet_grammar, packet_link_errors, packet_extension_errors, is_icmp}
use Rattle.ether_ip.specs.declared.err.packet.SliceError.TheVariants.{Len, Ip, Tcp}
use Rattle.ether_ip.proofs.HeldLemmas.{extension_positive}
use Rattle.ether_ip.proofs.IpLemmas.{six_if_not_four, len_of_six}
use Rattle.ether_ip.proofs.TransportLemmas.{udp_positive, tcp_positive, icmpv4_positive, icmpv6_positive, udp_covers}

said_by : (b : Bool) (n said : ℕ) → cond b None (Some n) ≡ Some said → (n ≡ said) × (b ≡ false)
said_by true n said is = absurd (cc)
said_by false n said is = (cc, refl)

module _ (bytes : List ℕ) (accepted : refusal (ip_form Len Ip) bytes ≡ None) where
  there : header_len (ip_form Len Ip) bytes ≤ length bytes
  there = has_header (ip_form Len Ip) bytes accepted

  whole : length (take (header_len (ip_form Len Ip) bytes) bytes) ≡ header_len (ip_form Len Ip) bytes
  whole = length-take-le (header_len (ip_form Len Ip) bytes) bytes there

  first_byte : get_or (take (header_len (ip_form Len Ip) bytes) bytes) 0 0 ≡ get_or bytes 0 0
  first_byte = get_or-take (header_len (ip_form Len Ip) bytes) bytes 0 0 (omega arith)

  ip_covers : (said : ℕ) → ip_announced (take (header_len (ip_form Len Ip) bytes) bytes) ≡ Some said
      → (b : Bool) → (ip_version (take (header_len (ip_form Len Ip) bytes) bytes) == 4) ≡ b → header_len (ip_form Len Ip) bytes ≤ said
  ip_covers said says true is =
      let four = rw is at says in
      let split = said_by (nat_lt (be16_at (take (header_len (ip_form Len Ip) bytes) bytes) 2) (length (take (header_len (ip_form Len Ip) bytes) bytes)))
      (be16_at (take (header_len (ip_form Len Ip) bytes) bytes) 2) said four in
      let len = whole in
      let total = split.0 in
      let room = split.1 in
      grind (arith, nat_tests)
  ip_covers said says false is =
      let six = rw is at says in
      let split = said_by (be16_at (take (header_len (ip_form Len Ip) bytes) bytes) 4 == 0) (40 + be16_at (take (header_len (ip_form Len Ip) bytes) bytes) 4) said six in
      let isnt : ip_version (take (header_len (ip_form Len Ip) bytes) bytes) ≢ 4 = grind (arith, nat_tests) in
      let not_four : ip_version bytes ≢ 4 = rw first_byte at isnt in
      let len = len_of_six Len Ip bytes accepted (six_if_not_four Len Ip bytes accepted not_four) in
      let total = split.0 in
      omega arith

positive : (part : PartKind) (bytes : List ℕ) → refusal (ip_grammar.form_of part) bytes ≡ None → 0 < header_len (ip_grammar.form_of part) bytes
positive kind.Ip bytes accepted = omega arith
positive kind.Udp bytes accepted = udp_positive Len bytes
positive kind.Tcp bytes accepted = tcp_positive Len Tcp bytes
positive kind.Icmpv4 bytes accepted = icmpv4_positive Len bytes
positive kind.Icmpv6 bytes accepted = icmpv6_positive Len bytes
positive other bytes accepted = extension_positive packet_extension_errors other bytes accepted

covers : (part : PartKind) (bytes : List ℕ) (said : ℕ) → refusal (ip_grammar.form_of part) bytes ≡ None
    → ip_grammar.announced part (header ip_grammar part bytes) ≡ Some said → header_len (ip_grammar.form_of part) bytes ≤ said
covers kind.Ip bytes said accepted says = ip_covers bytes accepted said says (ip_version (header ip_grammar kind.Ip bytes) == 4) refl
covers kind.Udp bytes said accepted says = udp_covers Len bytes (header ip_grammar kind.Udp bytes) said says
covers other bytes said accepted says = absurd (cc)

pub packets_orderly : IsOrderly packet_grammar
packets_orderly = orderly_link packet_link_errors ip_grammar (record { positive = positive; covers = covers })

open_end : (part : PartKind) (head : List ℕ) → is_icmp part ≡ false → (packet_grammar.form_of part).alone head ≡ false
open_end kind.Icmpv4 head is = absurd (cc)
open_end kind.Icmpv6 head is = absurd (cc)
open_end other head is = refl

nothing_behind : (part : PartKind) (turn : Turn) (bytes : List ℕ) → is_icmp part ≡ true → packet_grammar.next (record turn { kind = part }) bytes ≡ None
nothing_behind kind.Icmpv4 turn bytes is = refl
nothing_behind kind.Icmpv6 turn bytes is = refl
nothing_behind other turn bytes is = absurd (cc)

pub packets_cuttable : IsCuttable packet_grammar is_icmp
packets_cuttable = record { open_end = open_end; ends = λ turn bytes is. nothing_behind turn.kind turn bytes is }
