-- ICMPv6 messages on each side of the limits of RFC 4443 and of IANA's "ICMPv6 Parameters".
use Rattle.std.specs.Prelude.{◌≡◌, ℕ, [], ◌∷◌, map, take, Some, None}
use Rattle.ether_link.specs.Form.{header_len, no_map, refusal}
use Rattle.ether_link.specs.declared.err.layers.Layer.TheVariants.{Icmpv6}
use Rattle.ether_ip.specs.Icmpv6.{icmpv6_form, icmpv6_header, icmpv6_type}
use Rattle.ether_ip.specs.declared.transport.icmpv6.Icmpv6Type.{Icmpv6Type}
use Rattle.ether_ip.specs.declared.transport.icmpv6.Icmpv6Type.TheVariants.{Unknown, ParameterProblem, EchoRequest, EchoReply}
use Rattle.rule_examples.specs.Icmpv4Messages.{echo, message, wrong_len}

-- what a message with a type and a code is
abbrev pub kind : ℕ → ℕ → Icmpv6Type
kind type code = icmpv6_type (message type code)

abbrev pub unknown : ℕ → ℕ → Icmpv6Type
unknown type code = Unknown type code (5 ∷ 6 ∷ 7 ∷ 8 ∷ [])

-- a code, and where the problem lies
abbrev pub problem : ℕ → Icmpv6Type
problem code = ParameterProblem (record { code = record { 0 = code }; pointer = 0x05060708 })

-- Parameter problems have type 4 and the codes 0 to 10 (RFC 4443, section 3.4; IANA), echo requests type 128 and
-- replies type 129, each with the code 0 (RFC 4443, sections 4.1 and 4.2). Their neighbours are none of these.
pub record Icmpv6Kinds : Type 0 where
  pub before_problem : kind 3 0 ≡ unknown 3 0
  pub first_problem : kind 4 0 ≡ problem 0
  pub last_problem : kind 4 10 ≡ problem 10
  pub problem_code : kind 4 11 ≡ unknown 4 11
  pub behind_problem : kind 5 0 ≡ unknown 5 0
  pub before_echo : kind 127 0 ≡ unknown 127 0
  pub echo_request : kind 128 0 ≡ EchoRequest echo
  pub echo_request_code : kind 128 1 ≡ unknown 128 1
  pub echo_reply : kind 129 0 ≡ EchoReply echo
  pub echo_reply_code : kind 129 1 ≡ unknown 129 1
  pub behind_echo : kind 130 0 ≡ unknown 130 0
  -- the numbers of ICMPv4 are others
  pub other_version : map (λ type. kind type 0) (0 ∷ 8 ∷ []) ≡ unknown 0 0 ∷ unknown 8 0 ∷ []
  pub checksum : icmpv6_header (message 4 1) ≡ record { icmp_type = problem 1; checksum = 0x0304 }

-- a message has eight bytes or more
pub record Icmpv6Sizes : Type 0 where
  pub header : header_len (icmpv6_form no_map) (message 4 0) ≡ 8
  pub short : refusal (icmpv6_form no_map) (take 7 (message 4 0)) ≡ Some (wrong_len Icmpv6 7 8)
  pub least : refusal (icmpv6_form no_map) (take 8 (message 4 0)) ≡ None
  pub timestamp : refusal (icmpv6_form no_map) (take 19 (message 13 0)) ≡ None
