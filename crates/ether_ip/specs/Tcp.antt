-- The header of a TCP segment (RFC 9293, section 3.1; its NS bit: RFC 3540, section 9).
use Rattle.std.specs.Prelude.{ℕ, ◌-◌, ◌*◌, ◌/◌, nat_lt, if◌then◌else◌, List, slice_index, Some, None}
use Rattle.wire_base.specs.Bytes.{bytes_between, be16_at, be32_at, flag_at}
use Rattle.ether_link.specs.Form.{Form, never_refused, never_alone}
use Rattle.ether_link.specs.declared.len_source.LenSource.TheVariants.{Slice}
use Rattle.ether_link.specs.declared.err.layers.Layer.TheVariants.{TcpHeader as TcpLayer}
use Rattle.ether_link.specs.declared.err.length.LenError.{LenError}
use Rattle.ether_ip.specs.declared.err.tcp.HeaderError.{HeaderError}
use Rattle.ether_ip.specs.declared.err.tcp.HeaderError.TheVariants.{DataOffsetTooSmall}
use Rattle.ether_ip.specs.declared.err.tcp.HeaderSliceError.{HeaderSliceError}
use Rattle.ether_ip.specs.declared.err.tcp.HeaderSliceError.TheVariants.{Len, Content}
use Rattle.ether_ip.specs.declared.transport.tcp.TcpHeader.{TcpHeader}

-- the length of the header in words of four bytes
abbrev pub tcp_data_offset : List ℕ → ℕ
tcp_data_offset bytes = slice_index bytes 12 / 16

-- a header has five words at least
abbrev pub tcp_form : {E : Type 0} → (LenError → E) → (HeaderError → E) → Form E
tcp_form wrong_len wrong = record {
  least = 20;
  layer = TcpLayer;
  early = λ head.
      if nat_lt (tcp_data_offset head) 5
      then Some (wrong (DataOffsetTooSmall (tcp_data_offset head)))
      else None;
  more = λ head. tcp_data_offset head * 4 - 20;
  whole = λ head. TcpLayer;
  source = Slice;
  late = never_refused;
  alone = never_alone;
  wrong_len = wrong_len;
}

-- the same, with the errors of its reader
abbrev pub tcp_slice_form : Form HeaderSliceError
tcp_slice_form = tcp_form Len Content

-- the bytes of the header after the first five words
abbrev pub tcp_options : List ℕ → List ℕ
tcp_options bytes = bytes_between 20 (tcp_data_offset bytes * 4) bytes

-- the fields
abbrev pub tcp_header : List ℕ → TcpHeader
tcp_header bytes = record {
  source_port = be16_at bytes 0;
  destination_port = be16_at bytes 2;
  sequence_number = be32_at bytes 4;
  acknowledgment_number = be32_at bytes 8;
  ns = flag_at bytes 12 0;
  fin = flag_at bytes 13 0;
  syn = flag_at bytes 13 1;
  rst = flag_at bytes 13 2;
  psh = flag_at bytes 13 3;
  ack = flag_at bytes 13 4;
  urg = flag_at bytes 13 5;
  ece = flag_at bytes 13 6;
  cwr = flag_at bytes 13 7;
  window_size = be16_at bytes 14;
  checksum = be16_at bytes 16;
  urgent_pointer = be16_at bytes 18;
  options = record { items = tcp_options bytes };
}
