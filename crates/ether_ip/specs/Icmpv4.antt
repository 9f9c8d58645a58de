-- An ICMPv4 message (RFC 792).
use Rattle.std.specs.Prelude.{ℕ, ◌==◌, nat_le, Bool, ◌&&◌, ◌||◌, if◌then◌else◌, List, slice_index}
use Rattle.wire_base.specs.Bytes.{bytes_between, be16_at, be32_at}
use Rattle.ether_link.specs.Form.{Form, never_refused}
use Rattle.ether_link.specs.declared.len_source.LenSource.TheVariants.{Slice}
use Rattle.ether_link.specs.declared.err.layers.Layer.TheVariants as layer
use Rattle.ether_link.specs.declared.err.length.LenError.{LenError}
use Rattle.ether_ip.specs.Icmp.{icmp_echo, icmp_is}
use Rattle.ether_ip.specs.declared.transport.icmpv4.Icmpv4Type.{Icmpv4Type}
use Rattle.ether_ip.specs.declared.transport.icmpv4.Icmpv4Type.TheVariants.{Unknown, EchoReply, EchoRequest, Redirect, TimestampRequest, TimestampReply}
use Rattle.ether_ip.specs.declared.transport.icmpv4.Icmpv4Header.{Icmpv4Header}
use Rattle.ether_ip.specs.declared.transport.icmpv4.RedirectHeader.{RedirectHeader}
use Rattle.ether_ip.specs.declared.transport.icmpv4.TimestampMessage.{TimestampMessage}

-- a timestamp message, or its reply
abbrev pub is_timestamp : List ℕ → Bool
is_timestamp bytes = icmp_is 13 0 bytes || icmp_is 14 0 bytes

-- eight bytes and a payload, or the 20 bytes of a timestamp message and nothing behind them
abbrev pub icmpv4_form : {E : Type 0} → (LenError → E) → Form E
icmpv4_form wrong_len = record {
  least = 8;
  layer = layer.Icmpv4;
  early = never_refused;
  more = λ head. if is_timestamp head then 12 else 0;
  whole = λ head. if icmp_is 13 0 head then layer.Icmpv4Timestamp
      else (if icmp_is 14 0 head then layer.Icmpv4TimestampReply else layer.Icmpv4);
  source = Slice;
  late = never_refused;
  alone = is_timestamp;
  wrong_len = wrong_len;
}

-- the fields of a redirect message but for its checksum
abbrev pub redirect_header : List ℕ → RedirectHeader
redirect_header bytes = record {
  code = record { 0 = slice_index bytes 1 };
  gateway_internet_address = bytes_between 4 8 bytes;
}

-- the fields of a timestamp message after its checksum
abbrev pub timestamp_message : List ℕ → TimestampMessage
timestamp_message bytes = record {
  id = be16_at bytes 4;
  seq = be16_at bytes 6;
  originate_timestamp = be32_at bytes 8;
  receive_timestamp = be32_at bytes 12;
  transmit_timestamp = be32_at bytes 16;
}

-- what the message is, by its type and its code
abbrev pub icmpv4_type : List ℕ → Icmpv4Type
icmpv4_type bytes =
    if icmp_is 0 0 bytes then EchoReply (icmp_echo bytes)
    else (if icmp_is 8 0 bytes then EchoRequest (icmp_echo bytes)
    else (if (slice_index bytes 0 == 5) && nat_le (slice_index bytes 1) 3
    then Redirect (redirect_header bytes)
    else (if icmp_is 13 0 bytes then TimestampRequest (timestamp_message bytes)
    else (if icmp_is 14 0 bytes then TimestampReply (timestamp_message bytes)
    else Unknown (slice_index bytes 0) (slice_index bytes 1) (bytes_between 4 8 bytes)))))

-- the fields
abbrev pub icmpv4_header : List ℕ → Icmpv4Header
icmpv4_header bytes = record { icmp_type = icmpv4_type bytes; checksum = be16_at bytes 2 }
