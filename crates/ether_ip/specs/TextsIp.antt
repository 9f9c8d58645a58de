-- What the errors of IP headers and their extensions print.
use Rattle.std.specs.Prelude.{ℕ, List, ◌++◌, codes}
use Rattle.std.specs.Fmt.{decimal}
use Rattle.ether_link.specs.Texts.{len_text}
use Rattle.ether_ip.specs.declared.err.ip_auth.HeaderError as ip_auth
use Rattle.ether_ip.specs.declared.err.ip_auth.HeaderSliceError as ip_auth_header_slice
use Rattle.ether_ip.specs.declared.err.ipv4.HeaderError as ipv4
use Rattle.ether_ip.specs.declared.err.ipv4.HeaderSliceError as ipv4_header_slice
use Rattle.ether_ip.specs.declared.err.ipv4.SliceError as ipv4_slice
use Rattle.ether_ip.specs.declared.err.ipv6.HeaderError as ipv6
use Rattle.ether_ip.specs.declared.err.ipv6.HeaderSliceError as ipv6_header_slice
use Rattle.ether_ip.specs.declared.err.ipv6.SliceError as ipv6_slice
use Rattle.ether_ip.specs.declared.err.ipv6_exts.HeaderError as ipv6_exts
use Rattle.ether_ip.specs.declared.err.ipv6_exts.HeaderSliceError as ipv6_exts_header_slice
use Rattle.ether_ip.specs.declared.err.ip_exts.HeaderError as ip_exts
use Rattle.ether_ip.specs.declared.err.ip_exts.HeadersSliceError as ip_exts_slice
use Rattle.ether_ip.specs.declared.err.ip.HeaderError as ip
use Rattle.ether_ip.specs.declared.err.ip.HeadersError as ip_headers
use Rattle.ether_ip.specs.declared.err.ip.HeadersSliceError as ip_headers_slice
use Rattle.ether_ip.specs.declared.err.ip.SliceError as ip_slice
use Rattle.ether_ip.specs.declared.err.ip.LaxHeaderSliceError as lax_header_slice

abbrev pub ip_auth_text : ip_auth.HeaderError → List ℕ
ip_auth_text ip_auth.TheVariants.ZeroPayloadLen = codes "auth length 0"

abbrev pub ip_auth_header_slice_text : ip_auth_header_slice.HeaderSliceError → List ℕ
ip_auth_header_slice_text (ip_auth_header_slice.TheVariants.Len error) = len_text error
ip_auth_header_slice_text (ip_auth_header_slice.TheVariants.Content error) = ip_auth_text error

abbrev pub ipv4_text : ipv4.HeaderError → List ℕ
ipv4_text (ipv4.TheVariants.UnexpectedVersion version_number) =
    codes "ipv4 version " ++ decimal version_number
ipv4_text (ipv4.TheVariants.HeaderLengthSmallerThanHeader ihl) = codes "ipv4 header length " ++ decimal ihl

abbrev pub ipv4_header_slice_text : ipv4_header_slice.HeaderSliceError → List ℕ
ipv4_header_slice_text (ipv4_header_slice.TheVariants.Len error) = len_text error
ipv4_header_slice_text (ipv4_header_slice.TheVariants.Content error) = ipv4_text error

abbrev pub ipv4_slice_text : ipv4_slice.SliceError → List ℕ
ipv4_slice_text (ipv4_slice.TheVariants.Len error) = len_text error
ipv4_slice_text (ipv4_slice.TheVariants.Header error) = ipv4_text error
ipv4_slice_text (ipv4_slice.TheVariants.Exts error) = ip_auth_text error

abbrev pub ipv6_exts_text : ipv6_exts.HeaderError → List ℕ
ipv6_exts_text ipv6_exts.TheVariants.HopByHopNotAtStart = codes "hop-by-hop not first"
ipv6_exts_text (ipv6_exts.TheVariants.IpAuth error) = ip_auth_text error

abbrev pub ipv6_exts_header_slice_text : ipv6_exts_header_slice.HeaderSliceError → List ℕ
ipv6_exts_header_slice_text (ipv6_exts_header_slice.TheVariants.Len error) = len_text error
ipv6_exts_header_slice_text (ipv6_exts_header_slice.TheVariants.Content error) = ipv6_exts_text error

abbrev pub ipv6_text : ipv6.HeaderError → List ℕ
ipv6_text (ipv6.TheVariants.UnexpectedVersion version_number) =
    codes "ipv6 version " ++ decimal version_number

abbrev pub ipv6_header_slice_text : ipv6_header_slice.HeaderSliceError → List ℕ
ipv6_header_slice_text (ipv6_header_slice.TheVariants.Len error) = len_text error
ipv6_header_slice_text (ipv6_header_slice.TheVariants.Content error) = ipv6_text error

abbrev pub ipv6_slice_text : ipv6_slice.SliceError → List ℕ
ipv6_slice_text (ipv6_slice.TheVariants.Len error) = len_text error
ipv6_slice_text (ipv6_slice.TheVariants.Header error) = ipv6_text error
ipv6_slice_text (ipv6_slice.TheVariants.Exts error) = ipv6_exts_text error

abbrev pub ip_exts_text : ip_exts.HeaderError → List ℕ
ip_exts_text (ip_exts.TheVariants.Ipv4Ext error) = ip_auth_text error
ip_exts_text (ip_exts.TheVariants.Ipv6Ext error) = ipv6_exts_text error

abbrev pub ip_exts_slice_text : ip_exts_slice.HeadersSliceError → List ℕ
ip_exts_slice_text (ip_exts_slice.TheVariants.Len error) = len_text error
ip_exts_slice_text (ip_exts_slice.TheVariants.Content error) = ip_exts_text error

abbrev pub ip_text : ip.HeaderError → List ℕ
ip_text (ip.TheVariants.UnsupportedIpVersion version_number) = codes "ip version " ++ decimal version_number
ip_text (ip.TheVariants.Ipv4HeaderLengthSmallerThanHeader ihl) = codes "ipv4 header length " ++ decimal ihl

abbrev pub ip_headers_text : ip_headers.HeadersError → List ℕ
ip_headers_text (ip_headers.TheVariants.Ip error) = ip_text error
ip_headers_text (ip_headers.TheVariants.Ipv4Ext error) = ip_auth_text error
ip_headers_text (ip_headers.TheVariants.Ipv6Ext error) = ipv6_exts_text error

abbrev pub ip_headers_slice_text : ip_headers_slice.HeadersSliceError → List ℕ
ip_headers_slice_text (ip_headers_slice.TheVariants.Len error) = len_text error
ip_headers_slice_text (ip_headers_slice.TheVariants.Content error) = ip_headers_text error

abbrev pub ip_slice_text : ip_slice.SliceError → List ℕ
ip_slice_text (ip_slice.TheVariants.Len error) = len_text error
ip_slice_text (ip_slice.TheVariants.IpHeaders error) = ip_headers_text error

abbrev pub lax_header_slice_text : lax_header_slice.LaxHeaderSliceError → List ℕ
lax_header_slice_text (lax_header_slice.TheVariants.Len error) = len_text error
lax_header_slice_text (lax_header_slice.TheVariants.Content error) = ip_text error
