-- What each error of a reader is among all errors of reading.
use Rattle.ether_err.specs.declared.read_error.ReadError.{ReadError}
use Rattle.ether_err.specs.declared.read_error.ReadError.TheVariants.{Io, Len, IpAuth, Ipv4, Ipv6, Ipv6Exts, LinuxSll, Macsec, Tcp}
use Rattle.ether_err.specs.ReadConversions.{read_ip_headers}
use Rattle.ether_err.specs.declared.ip.HeaderReadError as ip_read
use Rattle.ether_err.specs.declared.ip_auth.HeaderReadError as ip_auth_read
use Rattle.ether_err.specs.declared.ipv4.HeaderReadError as ipv4_read
use Rattle.ether_err.specs.declared.ipv6.HeaderReadError as ipv6_read
use Rattle.ether_err.specs.declared.ipv6_exts.HeaderReadError as ipv6_exts_read
use Rattle.ether_err.specs.declared.linux_sll.HeaderReadError as linux_sll_read
use Rattle.ether_err.specs.declared.macsec.HeaderReadError as macsec_read
use Rattle.ether_err.specs.declared.tcp.HeaderReadError as tcp_read

abbrev pub read_ip_read : ip_read.HeaderReadError → ReadError
read_ip_read (ip_read.TheVariants.Io fault) = Io fault
read_ip_read (ip_read.TheVariants.Len error) = Len error
read_ip_read (ip_read.TheVariants.Content error) = read_ip_headers error

abbrev pub read_ip_auth_read : ip_auth_read.HeaderReadError → ReadError
read_ip_auth_read (ip_auth_read.TheVariants.Io fault) = Io fault
read_ip_auth_read (ip_auth_read.TheVariants.Content error) = IpAuth error

abbrev pub read_ipv4_read : ipv4_read.HeaderReadError → ReadError
read_ipv4_read (ipv4_read.TheVariants.Io fault) = Io fault
read_ipv4_read (ipv4_read.TheVariants.Content error) = Ipv4 error

abbrev pub read_ipv6_read : ipv6_read.HeaderReadError → ReadError
read_ipv6_read (ipv6_read.TheVariants.Io fault) = Io fault
read_ipv6_read (ipv6_read.TheVariants.Content error) = Ipv6 error

abbrev pub read_ipv6_exts_read : ipv6_exts_read.HeaderReadError → ReadError
read_ipv6_exts_read (ipv6_exts_read.TheVariants.Io fault) = Io fault
read_ipv6_exts_read (ipv6_exts_read.TheVariants.Content error) = Ipv6Exts error

abbrev pub read_linux_sll_read : linux_sll_read.HeaderReadError → ReadError
read_linux_sll_read (linux_sll_read.TheVariants.Io fault) = Io fault
read_linux_sll_read (linux_sll_read.TheVariants.Content error) = LinuxSll error

abbrev pub read_macsec_read : macsec_read.HeaderReadError → ReadError
read_macsec_read (macsec_read.TheVariants.Io fault) = Io fault
read_macsec_read (macsec_read.TheVariants.Content error) = Macsec error

abbrev pub read_tcp_read : tcp_read.HeaderReadError → ReadError
read_tcp_read (tcp_read.TheVariants.Io fault) = Io fault
read_tcp_read (tcp_read.TheVariants.Content error) = Tcp error
