-- What each error of a slice is among all errors of reading.
use Rattle.ether_err.specs.declared.read_error.ReadError.{ReadError}
use Rattle.ether_err.specs.declared.read_error.ReadError.TheVariants.{Len, LinuxSll, Macsec, IpAuth, Ipv4, Ipv6, Ipv6Exts, Tcp, Ip}
use Rattle.ether_link.specs.declared.err.linux_sll.HeaderSliceError as linux_sll_slice
use Rattle.ether_link.specs.declared.err.macsec.HeaderSliceError as macsec_slice
use Rattle.ether_ip.specs.declared.err.ip_auth.HeaderSliceError as ip_auth_slice
use Rattle.ether_ip.specs.declared.err.ipv4.HeaderSliceError as ipv4_slice
use Rattle.ether_ip.specs.declared.err.ipv6.HeaderSliceError as ipv6_slice
use Rattle.ether_ip.specs.declared.err.ipv6_exts.HeaderSliceError as ipv6_exts_slice
use Rattle.ether_ip.specs.declared.err.tcp.HeaderSliceError as tcp_slice
use Rattle.ether_ip.specs.declared.err.ip.HeadersError as ip_headers
use Rattle.ether_ip.specs.declared.err.ip.HeadersSliceError as ip_headers_slice
use Rattle.ether_ip.specs.declared.err.ip.SliceError as ip_slice
use Rattle.ether_ip.specs.declared.err.ipv4.SliceError as ipv4_packet
use Rattle.ether_ip.specs.declared.err.ipv6.SliceError as ipv6_packet
use Rattle.ether_ip.specs.declared.err.packet.SliceError as packet

abbrev pub read_linux_sll_slice : linux_sll_slice.HeaderSliceError → ReadError
read_linux_sll_slice (linux_sll_slice.TheVariants.Len error) = Len error
read_linux_sll_slice (linux_sll_slice.TheVariants.Content error) = LinuxSll error

abbrev pub read_macsec_slice : macsec_slice.HeaderSliceError → ReadError
read_macsec_slice (macsec_slice.TheVariants.Len error) = Len error
read_macsec_slice (macsec_slice.TheVariants.Content error) = Macsec error

abbrev pub read_ip_auth_slice : ip_auth_slice.HeaderSliceError → ReadError
read_ip_auth_slice (ip_auth_slice.TheVariants.Len error) = Len error
read_ip_auth_slice (ip_auth_slice.TheVariants.Content error) = IpAuth error

abbrev pub read_ipv4_slice : ipv4_slice.HeaderSliceError → ReadError
read_ipv4_slice (ipv4_slice.TheVariants.Len error) = Len error
read_ipv4_slice (ipv4_slice.TheVariants.Content error) = Ipv4 error

abbrev pub read_ipv6_slice : ipv6_slice.HeaderSliceError → ReadError
read_ipv6_slice (ipv6_slice.TheVariants.Len error) = Len error
read_ipv6_slice (ipv6_slice.TheVariants.Content error) = Ipv6 error

abbrev pub read_ipv6_exts_slice : ipv6_exts_slice.HeaderSliceError → ReadError
read_ipv6_exts_slice (ipv6_exts_slice.TheVariants.Len error) = Len error
read_ipv6_exts_slice (ipv6_exts_slice.TheVariants.Content error) = Ipv6Exts error

abbrev pub read_tcp_slice : tcp_slice.HeaderSliceError → ReadError
read_tcp_slice (tcp_slice.TheVariants.Len error) = Len error
read_tcp_slice (tcp_slice.TheVariants.Content error) = Tcp error

abbrev pub read_ip_headers : ip_headers.HeadersError → ReadError
read_ip_headers (ip_headers.TheVariants.Ip error) = Ip error
read_ip_headers (ip_headers.TheVariants.Ipv4Ext error) = IpAuth error
read_ip_headers (ip_headers.TheVariants.Ipv6Ext error) = Ipv6Exts error

abbrev pub read_ip_headers_slice : ip_headers_slice.HeadersSliceError → ReadError
read_ip_headers_slice (ip_headers_slice.TheVariants.Len error) = Len error
read_ip_headers_slice (ip_headers_slice.TheVariants.Content error) = read_ip_headers error

abbrev pub read_ip_slice : ip_slice.SliceError → ReadError
read_ip_slice (ip_slice.TheVariants.Len error) = Len error
read_ip_slice (ip_slice.TheVariants.IpHeaders error) = read_ip_headers error

abbrev pub read_ipv4_packet : ipv4_packet.SliceError → ReadError
read_ipv4_packet (ipv4_packet.TheVariants.Len error) = Len error
read_ipv4_packet (ipv4_packet.TheVariants.Header error) = Ipv4 error
read_ipv4_packet (ipv4_packet.TheVariants.Exts error) = IpAuth error

abbrev pub read_ipv6_packet : ipv6_packet.SliceError → ReadError
read_ipv6_packet (ipv6_packet.TheVariants.Len error) = Len error
read_ipv6_packet (ipv6_packet.TheVariants.Header error) = Ipv6 error
read_ipv6_packet (ipv6_packet.TheVariants.Exts error) = Ipv6Exts error

abbrev pub read_packet : packet.SliceError → ReadError
read_packet (packet.TheVariants.Len error) = Len error
read_packet (packet.TheVariants.LinuxSll error) = LinuxSll error
read_packet (packet.TheVariants.Macsec error) = Macsec error
read_packet (packet.TheVariants.Ip error) = Ip error
read_packet (packet.TheVariants.Ipv4 error) = Ipv4 error
read_packet (packet.TheVariants.Ipv6 error) = Ipv6 error
read_packet (packet.TheVariants.Ipv4Exts error) = IpAuth error
read_packet (packet.TheVariants.Ipv6Exts error) = Ipv6Exts error
read_packet (packet.TheVariants.Tcp error) = Tcp error
