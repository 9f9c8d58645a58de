-- An ICMPv6 message (RFC 4443, sections 2.1, 3.4, 4.1 and 4.2).
use Rattle.std.specs.Prelude.{ℕ, ◌==◌, nat_le, ◌&&◌, if◌then◌else◌, List, slice_index}
use Rattle.wire_base.specs.Bytes.{bytes_between, be16_at, be32_at}
use Rattle.ether_link.specs.Form.{Form, never_refused, nothing_more, never_alone}
use Rattle.ether_link.specs.declared.len_source.LenSource.TheVariants.{Slice}
use Rattle.ether_link.specs.declared.err.layers.Layer.TheVariants as layer
use Rattle.ether_link.specs.declared.err.length.LenError.{LenError}
use Rattle.ether_ip.specs.Icmp.{icmp_echo, icmp_is}
use Rattle.ether_ip.specs.declared.transport.icmpv6.Icmpv6Type.{Icmpv6Type}
use Rattle.ether_ip.specs.declared.transport.icmpv6.Icmpv6Type.TheVariants.{Unknown, ParameterProblem, EchoRequest, EchoReply}
use Rattle.ether_ip.specs.declared.transport.icmpv6.Icmpv6Header.{Icmpv6Header}
use Rattle.ether_ip.specs.declared.transport.icmpv6.ParameterProblemHeader.{ParameterProblemHeader}

-- eight bytes and a payload
abbrev pub icmpv6_form : {E : Type 0} → (LenError → E) → Form E
icmpv6_form wrong_len = record {
  least = 8;
  layer = layer.Icmpv6;
  early = never_refused;
  more = nothing_more;
  whole = λ head. layer.Icmpv6;
  source = Slice;
  late = never_refused;
  alone = never_alone;
  wrong_len = wrong_len;
}

-- the fields of a parameter problem but for its checksum
abbrev pub parameter_problem : List ℕ → ParameterProblemHeader
parameter_problem bytes = record { code = record { 0 = slice_index bytes 1 }; pointer = be32_at bytes 4 }

-- what the message is, by its type and its code
abbrev pub icmpv6_type : List ℕ → Icmpv6Type
icmpv6_type bytes =
    if (slice_index bytes 0 == 4) && nat_le (slice_index bytes 1) 10
    then ParameterProblem (parameter_problem bytes)
    else (if icmp_is 128 0 bytes then EchoRequest (icmp_echo bytes)
    else (if icmp_is 129 0 bytes then EchoReply (icmp_echo bytes)
    else Unknown (slice_index bytes 0) (slice_index bytes 1) (bytes_between 4 8 bytes)))

-- the fields
abbrev pub icmpv6_header : List ℕ → Icmpv6Header
icmpv6_header bytes = record { icmp_type = icmpv6_type bytes; checksum = be16_at bytes 2 }
