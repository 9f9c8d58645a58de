-- The IPv4 header (RFC 791, section 3.1; RFC 2474, section 3; RFC 3168, section 5).
use Rattle.std.specs.Prelude.{ℕ, ◌*◌, ◌-◌, ◌/◌, ◌%◌, ◌==◌, nat_lt, Bool, not, ◌||◌, if◌then◌else◌, List, drop, slice_index, Some, None}
use Rattle.wire_base.specs.Bytes.{bytes_between, be16_at, flag_at}
use Rattle.ether_link.specs.Form.{Form, never_refused, never_alone}
use Rattle.ether_link.specs.declared.len_source.LenSource.TheVariants.{Slice}
use Rattle.ether_link.specs.declared.err.layers.Layer.TheVariants.{Ipv4Header as Ipv4Layer}
use Rattle.ether_link.specs.declared.err.length.LenError.{LenError}
use Rattle.ether_ip.specs.Version.{ip_version, ihl}
use Rattle.ether_ip.specs.declared.err.ipv4.HeaderError.{HeaderError}
use Rattle.ether_ip.specs.declared.err.ipv4.HeaderError.TheVariants.{UnexpectedVersion, HeaderLengthSmallerThanHeader}
use Rattle.ether_ip.specs.declared.err.ipv4.HeaderSliceError.{HeaderSliceError}
use Rattle.ether_ip.specs.declared.err.ipv4.HeaderSliceError.TheVariants.{Len, Content}
use Rattle.ether_ip.specs.declared.ip.ipv4.Ipv4Header.{Ipv4Header}

-- a header has 20 bytes, and as many words as it says
abbrev pub ipv4_form : {E : Type 0} → (LenError → E) → (HeaderError → E) → Form E
ipv4_form wrong_len wrong = record {
  least = 20;
  layer = Ipv4Layer;
  early = λ head. if ip_version head == 4
      then (if nat_lt (ihl head) 5 then Some (wrong (HeaderLengthSmallerThanHeader (ihl head))) else None)
      else Some (wrong (UnexpectedVersion (ip_version head)));
  more = λ head. 4 * ihl head - 20;
  whole = λ head. Ipv4Layer;
  source = Slice;
  late = never_refused;
  alone = never_alone;
  wrong_len = wrong_len;
}

abbrev pub ipv4_slice_form : Form HeaderSliceError
ipv4_slice_form = ipv4_form Len Content

-- where the payload stands in that of a datagram, in units of eight bytes
abbrev pub ipv4_fragment_offset : List ℕ → ℕ
ipv4_fragment_offset bytes = be16_at bytes 6 % 8192

-- the payload is only a part of that of a datagram
abbrev pub is_ipv4_fragment : List ℕ → Bool
is_ipv4_fragment bytes = flag_at bytes 6 5 || not (ipv4_fragment_offset bytes == 0)

-- its fields
abbrev pub ipv4_header : List ℕ → Ipv4Header
ipv4_header bytes = record {
  dscp = slice_index bytes 1 / 4;
  ecn = slice_index bytes 1 % 4;
  total_len = be16_at bytes 2;
  identification = be16_at bytes 4;
  dont_fragment = flag_at bytes 6 6;
  more_fragments = flag_at bytes 6 5;
  fragment_offset = ipv4_fragment_offset bytes;
  time_to_live = slice_index bytes 8;
  protocol = record { 0 = slice_index bytes 9 };
  header_checksum = be16_at bytes 10;
  source = bytes_between 12 16 bytes;
  destination = bytes_between 16 20 bytes;
  options = record { items = drop 20 bytes };
}
