-- The IP authentication header (RFC 4302, section 2).
use Rattle.std.specs.Prelude.{ℕ, ◌+◌, ◌*◌, ◌-◌, ◌==◌, if◌then◌else◌, List, drop, slice_index, Some, None}
use Rattle.wire_base.specs.Bytes.{be32_at}
use Rattle.ether_link.specs.Form.{Form, never_refused, never_alone}
use Rattle.ether_link.specs.declared.len_source.LenSource.TheVariants.{Slice}
use Rattle.ether_link.specs.declared.err.layers.Layer.TheVariants.{IpAuthHeader as AuthLayer}
use Rattle.ether_link.specs.declared.err.length.LenError.{LenError}
use Rattle.ether_ip.specs.declared.err.ip_auth.HeaderError.{HeaderError}
use Rattle.ether_ip.specs.declared.err.ip_auth.HeaderError.TheVariants.{ZeroPayloadLen}
use Rattle.ether_ip.specs.declared.err.ip_auth.HeaderSliceError.{HeaderSliceError}
use Rattle.ether_ip.specs.declared.err.ip_auth.HeaderSliceError.TheVariants.{Len, Content}
use Rattle.ether_ip.specs.declared.ip.auth.IpAuthHeader.{IpAuthHeader}

-- a header has 12 bytes at least, and in words of four bytes two more than it says
abbrev pub auth_form : {E : Type 0} → (LenError → E) → (HeaderError → E) → Form E
auth_form wrong_len wrong = record {
  least = 12;
  layer = AuthLayer;
  early = λ head. if slice_index head 1 == 0 then Some (wrong ZeroPayloadLen) else None;
  more = λ head. 4 * (slice_index head 1 + 2) - 12;
  whole = λ head. AuthLayer;
  source = Slice;
  late = never_refused;
  alone = never_alone;
  wrong_len = wrong_len;
}

abbrev pub auth_slice_form : Form HeaderSliceError
auth_slice_form = auth_form Len Content

-- its fields
abbrev pub auth_header : List ℕ → IpAuthHeader
auth_header bytes = record {
  next_header = record { 0 = slice_index bytes 0 };
  spi = be32_at bytes 4;
  sequence_number = be32_at bytes 8;
  icv = record { items = drop 12 bytes };
}
