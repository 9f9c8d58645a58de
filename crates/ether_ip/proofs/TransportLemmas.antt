-- What a frame's layout needs to know of the parts of the transport layer.
use Rattle.std.proofs.Common.{◌≡◌, ℕ, ◌<◌, ◌≤◌, true, false, List, length, take, Some, None, refl, arith}
use Rattle.std.proofs.lemmas.Bool.Decides.{nat_tests}
use Rattle.ether_link.specs.Form.{header_len, refusal}
use Rattle.ether_link.specs.declared.err.length.LenError.{LenError}
use Rattle.ether_ip.specs.declared.err.tcp.HeaderError.{HeaderError}
use Rattle.ether_ip.specs.Icmpv4.{icmpv4_form, is_timestamp}
use Rattle.ether_ip.specs.Icmpv6.{icmpv6_form}
use Rattle.ether_ip.specs.Tcp.{tcp_form}
use Rattle.ether_ip.specs.Udp.{udp_form, udp_announced}

module _ {E : Type 0} (wrong_len : LenError → E) where
  -- no header is empty
  pub udp_positive : (bytes : List ℕ) → 0 < header_len (udp_form wrong_len) bytes
  udp_positive bytes = omega arith

  pub tcp_positive : (wrong : HeaderError → E) (bytes : List ℕ) → 0 < header_len (tcp_form wrong_len wrong) bytes
  tcp_positive wrong bytes = omega arith

  pub icmpv4_positive : (bytes : List ℕ) → 0 < header_len (icmpv4_form wrong_len) bytes
  icmpv4_positive bytes = omega arith

  pub icmpv6_positive : (bytes : List ℕ) → 0 < header_len (icmpv6_form wrong_len) bytes
  icmpv6_positive bytes = omega arith

  -- what a UDP header announces has room for it
  pub udp_covers : (bytes header : List ℕ) (said : ℕ) → udp_announced header ≡ Some said → header_len (udp_form wrong_len) bytes ≤ said
  udp_covers bytes header said says = grind (arith, nat_tests)

  -- bytes may follow every header but that of an ICMPv4 timestamp message
  pub udp_open : (head : List ℕ) → (udp_form wrong_len).alone head ≡ false
  udp_open head = refl

  pub tcp_open : (wrong : HeaderError → E) (head : List ℕ) → (tcp_form wrong_len wrong).alone head ≡ false
  tcp_open wrong head = refl

  pub icmpv6_open : (head : List ℕ) → (icmpv6_form wrong_len).alone head ≡ false
  icmpv6_open head = refl

  -- a timestamp message is all that is there
  pub icmpv4_alone : (bytes : List ℕ) → refusal (icmpv4_form wrong_len) bytes ≡ None → is_timestamp (take 8 bytes) ≡ true
      → length bytes ≡ header_len (icmpv4_form wrong_len) bytes
  icmpv4_alone bytes accepted timestamp = grind (arith, nat_tests)
