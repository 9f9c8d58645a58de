-- The header of an Ethernet II frame (RFC 894; IEEE 802.3, section 3.2).
use Rattle.std.specs.Prelude.{ℕ, List}
use Rattle.wire_base.specs.Bytes.{bytes_between, be16_at}
use Rattle.ether_link.specs.Form.{Form, never_refused, nothing_more, never_alone}
use Rattle.ether_link.specs.declared.len_source.LenSource.TheVariants.{Slice}
use Rattle.ether_link.specs.declared.err.layers.Layer.TheVariants.{Ethernet2Header as Ethernet2Layer}
use Rattle.ether_link.specs.declared.err.length.LenError.{LenError}
use Rattle.ether_link.specs.declared.link.ethernet2.Ethernet2Header.{Ethernet2Header}

-- a header has 14 bytes
abbrev pub ethernet2_form : {E : Type 0} → (LenError → E) → Form E
ethernet2_form wrong_len = record {
  least = 14;
  layer = Ethernet2Layer;
  early = never_refused;
  more = nothing_more;
  whole = λ head. Ethernet2Layer;
  source = Slice;
  late = never_refused;
  alone = never_alone;
  wrong_len = wrong_len;
}

-- its fields
abbrev pub ethernet2_header : List ℕ → Ethernet2Header
ethernet2_header bytes = record {
  source = bytes_between 6 12 bytes;
  destination = bytes_between 0 6 bytes;
  ether_type = record { 0 = be16_at bytes 12 };
}
