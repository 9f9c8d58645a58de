-- ICMPv4 messages on each side of the limits of RFC 792.
use Rattle.std.specs.Prelude.{◌≡◌, ℕ, List, [], ◌∷◌, ◌++◌, map, take, Some, None}
use Rattle.ether_link.specs.Form.{header_len, no_map, refusal}
use Rattle.ether_link.specs.declared.err.layers.Layer.{Layer}
use Rattle.ether_link.specs.declared.err.layers.Layer.TheVariants.{Icmpv4, Icmpv4Timestamp, Icmpv4TimestampReply}
use Rattle.ether_link.specs.declared.err.length.LenError.{LenError}
use Rattle.ether_link.specs.declared.len_source.LenSource.TheVariants.{Slice}
use Rattle.ether_ip.specs.Icmpv4.{icmpv4_form, icmpv4_header, icmpv4_type}
use Rattle.ether_ip.specs.declared.transport.icmp_echo.IcmpEchoHeader.{IcmpEchoHeader}
use Rattle.ether_ip.specs.declared.transport.icmpv4.Icmpv4Type.{Icmpv4Type}
use Rattle.ether_ip.specs.declared.transport.icmpv4.Icmpv4Type.TheVariants.{Unknown, EchoReply, EchoRequest, Redirect, TimestampRequest, TimestampReply}
use Rattle.ether_ip.specs.declared.transport.icmpv4.TimestampMessage.{TimestampMessage}

-- the bytes behind type and code
abbrev pub behind : List ℕ
behind = 3 ∷ 4 ∷ 5 ∷ 6 ∷ 7 ∷ 8 ∷ 9 ∷ 10 ∷ 11 ∷ 12 ∷ 13 ∷ 14 ∷ 15 ∷ 16 ∷ 17 ∷ 18 ∷ 19 ∷ 20 ∷ []

-- a message of 20 bytes with a type and a code, and what it is
abbrev pub message : ℕ → ℕ → List ℕ
message type code = type ∷ code ∷ behind

abbrev pub kind : ℕ → ℕ → Icmpv4Type
kind type code = icmpv4_type (message type code)

-- a message that has no kind of its own
abbrev pub unknown : ℕ → ℕ → Icmpv4Type
unknown type code = Unknown type code (5 ∷ 6 ∷ 7 ∷ 8 ∷ [])

abbrev pub echo : IcmpEchoHeader
echo = record { id = 0x0506; seq = 0x0708 }

abbrev pub redirect : ℕ → Icmpv4Type
redirect code = Redirect (record { code = record { 0 = code }; gateway_internet_address = 5 ∷ 6 ∷ 7 ∷ 8 ∷ [] })

abbrev pub times : TimestampMessage
times = record {
  id = 0x0506;
  seq = 0x0708;
  originate_timestamp = 0x090A0B0C;
  receive_timestamp = 0x0D0E0F10;
  transmit_timestamp = 0x11121314;
}

-- Echo replies have type 0 and requests type 8; redirects type 5 and the codes 0 to 3; timestamps type 13 and their
-- replies type 14; each but redirects the code 0. Their neighbours are none of these.
pub record Icmpv4Kinds : Type 0 where
  pub echo_reply : kind 0 0 ≡ EchoReply echo
  pub echo_reply_code : kind 0 1 ≡ unknown 0 1
  pub behind_echo_reply : kind 1 0 ≡ unknown 1 0
  pub echo_request : kind 8 0 ≡ EchoRequest echo
  pub echo_request_code : kind 8 1 ≡ unknown 8 1
  pub before_echo_request : kind 7 0 ≡ unknown 7 0
  pub behind_echo_request : kind 9 0 ≡ unknown 9 0
  pub before_redirect : kind 4 0 ≡ unknown 4 0
  pub redirects : map (kind 5) (0 ∷ 1 ∷ 2 ∷ 3 ∷ []) ≡ redirect 0 ∷ redirect 1 ∷ redirect 2 ∷ redirect 3 ∷ []
  pub redirect_code : kind 5 4 ≡ unknown 5 4
  pub behind_redirect : kind 6 0 ≡ unknown 6 0
  pub before_timestamp : kind 12 0 ≡ unknown 12 0
  pub timestamp : kind 13 0 ≡ TimestampRequest times
  pub timestamp_code : kind 13 1 ≡ unknown 13 1
  pub timestamp_reply : kind 14 0 ≡ TimestampReply times
  pub timestamp_reply_code : kind 14 1 ≡ unknown 14 1
  pub behind_timestamp_reply : kind 15 0 ≡ unknown 15 0
  pub checksum : icmpv4_header (message 5 2) ≡ record { icmp_type = redirect 2; checksum = 0x0304 }

-- a number of bytes that is not the right one
abbrev pub wrong_len : Layer → ℕ → ℕ → LenError
wrong_len layer there required = record {
  required_len = required;
  len = there;
  len_source = Slice;
  layer = layer;
  layer_start_offset = 0;
}

-- a message has eight bytes or more, a timestamp message exactly 20
pub record Icmpv4Sizes : Type 0 where
  pub headers : map (header_len (icmpv4_form no_map))
      (message 0 0 ∷ message 13 0 ∷ message 14 0 ∷ message 13 1 ∷ message 14 1 ∷ []) ≡ 8 ∷ 20 ∷ 20 ∷ 8 ∷ 8 ∷ []
  pub short : refusal (icmpv4_form no_map) (take 7 (message 0 0)) ≡ Some (wrong_len Icmpv4 7 8)
  pub least : refusal (icmpv4_form no_map) (take 8 (message 0 0)) ≡ None
  pub short_request : refusal (icmpv4_form no_map) (take 19 (message 13 0)) ≡ Some (wrong_len Icmpv4Timestamp 19 20)
  pub request : refusal (icmpv4_form no_map) (message 13 0) ≡ None
  pub long_request : refusal (icmpv4_form no_map) (message 13 0 ++ 21 ∷ [])
      ≡ Some (wrong_len Icmpv4Timestamp 21 20)
  pub short_reply : refusal (icmpv4_form no_map) (take 19 (message 14 0))
      ≡ Some (wrong_len Icmpv4TimestampReply 19 20)
  pub reply : refusal (icmpv4_form no_map) (message 14 0) ≡ None
  pub long_reply : refusal (icmpv4_form no_map) (message 14 0 ++ 21 ∷ [])
      ≡ Some (wrong_len Icmpv4TimestampReply 21 20)
  pub other_code : refusal (icmpv4_form no_map) (message 13 1 ++ 21 ∷ []) ≡ None
