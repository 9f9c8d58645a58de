-- What the errors of the transport layer print.
use Rattle.std.specs.Prelude.{ℕ, List, ◌++◌, codes}
use Rattle.std.specs.Fmt.{decimal}
use Rattle.ether_link.specs.Texts.{len_text}
use Rattle.ether_ip.specs.declared.err.tcp.HeaderError as tcp
use Rattle.ether_ip.specs.declared.err.tcp.HeaderSliceError as tcp_slice

-- what is wrong in the bytes of a TCP header
abbrev pub tcp_text : tcp.HeaderError → List ℕ
tcp_text (tcp.TheVariants.DataOffsetTooSmall data_offset) = codes "tcp data offset " ++ decimal data_offset

-- why there is no TCP header
abbrev pub tcp_slice_text : tcp_slice.HeaderSliceError → List ℕ
tcp_slice_text (tcp_slice.TheVariants.Len error) = len_text error
tcp_slice_text (tcp_slice.TheVariants.Content error) = tcp_text error
