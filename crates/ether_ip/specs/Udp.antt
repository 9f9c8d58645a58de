-- The header of a UDP datagram (RFC 768).
use Rattle.std.specs.Prelude.{ℕ, nat_lt, if◌then◌else◌, List, Option, Some, None}
use Rattle.wire_base.specs.Bytes.{be16_at}
use Rattle.ether_link.specs.Form.{Form, never_refused, nothing_more, never_alone}
use Rattle.ether_link.specs.declared.len_source.LenSource.TheVariants.{Slice}
use Rattle.ether_link.specs.declared.err.layers.Layer.TheVariants.{UdpHeader as UdpLayer}
use Rattle.ether_link.specs.declared.err.length.LenError.{LenError}
use Rattle.ether_ip.specs.declared.transport.udp.UdpHeader.{UdpHeader}

-- a header has eight bytes
abbrev pub udp_form : {E : Type 0} → (LenError → E) → Form E
udp_form wrong_len = record {
  least = 8;
  layer = UdpLayer;
  early = never_refused;
  more = nothing_more;
  whole = λ head. UdpLayer;
  source = Slice;
  late = never_refused;
  alone = never_alone;
  wrong_len = wrong_len;
}

-- how many bytes header and payload have, where the length field has room for the header
abbrev pub udp_announced : List ℕ → Option ℕ
udp_announced header = if nat_lt (be16_at header 4) 8 then None else Some (be16_at header 4)

-- the fields
abbrev pub udp_header : List ℕ → UdpHeader
udp_header bytes = record {
  source_port = be16_at bytes 0;
  destination_port = be16_at bytes 2;
  length = be16_at bytes 4;
  checksum = be16_at bytes 6;
}
