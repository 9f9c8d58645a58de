-- The IPv6 header (RFC 8200, section 3).
use Rattle.std.specs.Prelude.{ℕ, ◌/◌, ◌%◌, ◌==◌, if◌then◌else◌, List, slice_index, Some, None}
use Rattle.wire_base.specs.Bytes.{bytes_between, be16_at, be32_at}
use Rattle.ether_link.specs.Form.{Form, never_refused, nothing_more, never_alone}
use Rattle.ether_link.specs.declared.len_source.LenSource.TheVariants.{Slice}
use Rattle.ether_link.specs.declared.err.layers.Layer.TheVariants.{Ipv6Header as Ipv6Layer}
use Rattle.ether_link.specs.declared.err.length.LenError.{LenError}
use Rattle.ether_ip.specs.Version.{ip_version}
use Rattle.ether_ip.specs.declared.err.ipv6.HeaderError.{HeaderError}
use Rattle.ether_ip.specs.declared.err.ipv6.HeaderError.TheVariants.{UnexpectedVersion}
use Rattle.ether_ip.specs.declared.err.ipv6.HeaderSliceError.{HeaderSliceError}
use Rattle.ether_ip.specs.declared.err.ipv6.HeaderSliceError.TheVariants.{Len, Content}
use Rattle.ether_ip.specs.declared.ip.ipv6.Ipv6Header.{Ipv6Header}

-- a header has 40 bytes
abbrev pub ipv6_form : {E : Type 0} → (LenError → E) → (HeaderError → E) → Form E
ipv6_form wrong_len wrong = record {
  least = 40;
  layer = Ipv6Layer;
  early = λ head. if ip_version head == 6 then None else Some (wrong (UnexpectedVersion (ip_version head)));
  more = nothing_more;
  whole = λ head. Ipv6Layer;
  source = Slice;
  late = never_refused;
  alone = never_alone;
  wrong_len = wrong_len;
}

abbrev pub ipv6_slice_form : Form HeaderSliceError
ipv6_slice_form = ipv6_form Len Content

-- the eight bits behind the version
abbrev pub traffic_class : List ℕ → ℕ
traffic_class bytes = be16_at bytes 0 / 16 % 256

-- the 20 bits behind those
abbrev pub flow_label : List ℕ → ℕ
flow_label bytes = be32_at bytes 0 % 1048576

-- its fields
abbrev pub ipv6_header : List ℕ → Ipv6Header
ipv6_header bytes = record {
  traffic_class = traffic_class bytes;
  flow_label = flow_label bytes;
  payload_length = be16_at bytes 4;
  next_header = record { 0 = slice_index bytes 6 };
  hop_limit = slice_index bytes 7;
  source = bytes_between 8 24 bytes;
  destination = bytes_between 24 40 bytes;
}
