-- What each error of a slice is as one of them all.
use Rattle.ether_err.specs.declared.from_slice_error.FromSliceError.{FromSliceError}
use Rattle.ether_err.specs.declared.from_slice_error.FromSliceError.TheVariants.{Len, LinuxSll, IpAuth, Ipv4, Ipv6, Ipv6Exts, Tcp, Ip, Macsec}
use Rattle.ether_link.specs.declared.err.linux_sll.HeaderSliceError as linux_sll_slice
use Rattle.ether_ip.specs.declared.err.ip_auth.HeaderSliceError as ip_auth_slice
use Rattle.ether_ip.specs.declared.err.ipv4.HeaderSliceError as ipv4_slice
use Rattle.ether_ip.specs.declared.err.ipv6.HeaderSliceError as ipv6_slice
use Rattle.ether_ip.specs.declared.err.ipv6_exts.HeaderSliceError as ipv6_exts_slice
use Rattle.ether_ip.specs.declared.err.tcp.HeaderSliceError as tcp_slice
use Rattle.ether_ip.specs.declared.err.ip.HeadersError as ip_headers
use Rattle.ether_ip.specs.declared.err.ip.HeadersSliceError as ip_headers_slice
use Rattle.ether_ip.specs.declared.err.ip.SliceError as ip_slice
use Rattle.ether_ip.specs.declared.err.ipv4.SliceError as ipv4_packet
use Rattle.ether_ip.specs.declared.err.ipv6.SliceError as ipv6_packet
use Rattle.ether_ip.specs.declared.err.packet.SliceError as packet

abbrev pub from_linux_sll_slice : linux_sll_slice.HeaderSliceError → FromSliceError
from_linux_sll_slice (linux_sll_slice.TheVariants.Len error) = Len error
from_linux_sll_slice (linux_sll_slice.TheVariants.Content error) = LinuxSll error

abbrev pub from_ip_auth_slice : ip_auth_slice.HeaderSliceError → FromSliceError
from_ip_auth_slice (ip_auth_slice.TheVariants.Len error) = Len error
from_ip_auth_slice (ip_auth_slice.TheVariants.Content error) = IpAuth error

abbrev pub from_ipv4_slice : ipv4_slice.HeaderSliceError → FromSliceError
from_ipv4_slice (ipv4_slice.TheVariants.Len error) = Len error
from_ipv4_slice (ipv4_slice.TheVariants.Content error) = Ipv4 error

abbrev pub from_ipv6_slice : ipv6_slice.HeaderSliceError → FromSliceError
from_ipv6_slice (ipv6_slice.TheVariants.Len error) = Len error
from_ipv6_slice (ipv6_slice.TheVariants.Content error) = Ipv6 error

abbrev pub from_ipv6_exts_slice : ipv6_exts_slice.HeaderSliceError → FromSliceError
from_ipv6_exts_slice (ipv6_exts_slice.TheVariants.Len error) = Len error
from_ipv6_exts_slice (ipv6_exts_slice.TheVariants.Content error) = Ipv6Exts error

abbrev pub from_tcp_slice : tcp_slice.HeaderSliceError → FromSliceError
from_tcp_slice (tcp_slice.TheVariants.Len error) = Len error
from_tcp_slice (tcp_slice.TheVariants.Content error) = Tcp error

abbrev pub from_ip_headers : ip_headers.HeadersError → FromSliceError
from_ip_headers (ip_headers.TheVariants.Ip error) = Ip error
from_ip_headers (ip_headers.TheVariants.Ipv4Ext error) = IpAuth error
from_ip_headers (ip_headers.TheVariants.Ipv6Ext error) = Ipv6Exts error

abbrev pub from_ip_headers_slice : ip_headers_slice.HeadersSliceError → FromSliceError
from_ip_headers_slice (ip_headers_slice.TheVariants.Len error) = Len error
from_ip_headers_slice (ip_headers_slice.TheVariants.Content error) = from_ip_headers error

abbrev pub from_ip_slice : ip_slice.SliceError → FromSliceError
from_ip_slice (ip_slice.TheVariants.Len error) = Len error
from_ip_slice (ip_slice.TheVariants.IpHeaders error) = from_ip_headers error

abbrev pub from_ipv4_packet : ipv4_packet.SliceError → FromSliceError
from_ipv4_packet (ipv4_packet.TheVariants.Len error) = Len error
from_ipv4_packet (ipv4_packet.TheVariants.Header error) = Ipv4 error
from_ipv4_packet (ipv4_packet.TheVariants.Exts error) = IpAuth error

abbrev pub from_ipv6_packet : ipv6_packet.SliceError → FromSliceError
from_ipv6_packet (ipv6_packet.TheVariants.Len error) = Len error
from_ipv6_packet (ipv6_packet.TheVariants.Header error) = Ipv6 error
from_ipv6_packet (ipv6_packet.TheVariants.Exts error) = Ipv6Exts error

abbrev pub from_packet : packet.SliceError → FromSliceError
from_packet (packet.TheVariants.Len error) = Len error
from_packet (packet.TheVariants.LinuxSll error) = LinuxSll error
from_packet (packet.TheVariants.Macsec error) = Macsec error
from_packet (packet.TheVariants.Ip error) = Ip error
from_packet (packet.TheVariants.Ipv4 error) = Ipv4 error
from_packet (packet.TheVariants.Ipv6 error) = Ipv6 error
from_packet (packet.TheVariants.Ipv4Exts error) = IpAuth error
from_packet (packet.TheVariants.Ipv6Exts error) = Ipv6Exts error
from_packet (packet.TheVariants.Tcp error) = Tcp error
