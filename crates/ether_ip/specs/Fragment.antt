-- The fragment header of IPv6 (RFC 8200, section 4.5).
use Rattle.std.specs.Prelude.{ℕ, ◌/◌, ◌==◌, Bool, not, ◌||◌, List, slice_index}
use Rattle.wire_base.specs.Bytes.{be16_at, be32_at, flag_at}
use Rattle.ether_link.specs.Form.{Form, never_refused, nothing_more, never_alone}
use Rattle.ether_link.specs.declared.len_source.LenSource.TheVariants.{Slice}
use Rattle.ether_link.specs.declared.err.layers.Layer.TheVariants.{Ipv6FragHeader}
use Rattle.ether_link.specs.declared.err.length.LenError.{LenError}
use Rattle.ether_ip.specs.declared.ip.fragment.Ipv6FragmentHeader.{Ipv6FragmentHeader}

-- a header has eight bytes
abbrev pub fragment_form : {E : Type 0} → (LenError → E) → Form E
fragment_form wrong_len = record {
  least = 8;
  layer = Ipv6FragHeader;
  early = never_refused;
  more = nothing_more;
  whole = λ head. Ipv6FragHeader;
  source = Slice;
  late = never_refused;
  alone = never_alone;
  wrong_len = wrong_len;
}

-- where the payload stands in that of a packet, in units of eight bytes
abbrev pub ipv6_fragment_offset : List ℕ → ℕ
ipv6_fragment_offset bytes = be16_at bytes 2 / 8

-- the payload is only a part of that of a packet
abbrev pub is_ipv6_fragment : List ℕ → Bool
is_ipv6_fragment bytes = flag_at bytes 3 0 || not (ipv6_fragment_offset bytes == 0)

-- its fields
abbrev pub fragment_header : List ℕ → Ipv6FragmentHeader
fragment_header bytes = record {
  next_header = record { 0 = slice_index bytes 0 };
  fragment_offset = ipv6_fragment_offset bytes;
  more_fragments = flag_at bytes 3 0;
  identification = be32_at bytes 4;
}
