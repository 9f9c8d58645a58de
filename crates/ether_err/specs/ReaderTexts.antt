-- What the errors of the readers print: a start and the fault's text, or the inner text.
use Rattle.std.specs.Prelude.{ℕ, List, ◌++◌, codes}
use Rattle.ether_link.specs.Texts.{len_text, linux_sll_text, macsec_text}
use Rattle.ether_ip.specs.TextsIp.{ip_headers_text, ip_auth_text, ipv4_text, ipv6_text, ipv6_exts_text}
use Rattle.ether_ip.specs.TextsTransport.{tcp_text}
use Rattle.ether_err.specs.IoTexts.{io_text}
use Rattle.ether_err.specs.declared.ip.HeaderReadError as ip
use Rattle.ether_err.specs.declared.ip_auth.HeaderReadError as ip_auth
use Rattle.ether_err.specs.declared.ipv4.HeaderReadError as ipv4
use Rattle.ether_err.specs.declared.ipv6.HeaderReadError as ipv6
use Rattle.ether_err.specs.declared.ipv6_exts.HeaderReadError as ipv6_exts
use Rattle.ether_err.specs.declared.linux_sll.HeaderReadError as linux_sll
use Rattle.ether_err.specs.declared.macsec.HeaderReadError as macsec
use Rattle.ether_err.specs.declared.tcp.HeaderReadError as tcp

abbrev pub ip_read_text : ip.HeaderReadError → List ℕ
ip_read_text (ip.TheVariants.Io fault) = codes "IP Header IO Error: " ++ io_text fault
ip_read_text (ip.TheVariants.Len error) = len_text error
ip_read_text (ip.TheVariants.Content error) = ip_headers_text error

abbrev pub ip_auth_read_text : ip_auth.HeaderReadError → List ℕ
ip_auth_read_text (ip_auth.TheVariants.Io fault) =
    codes "IP Authentication Header IO Error: " ++ io_text fault
ip_auth_read_text (ip_auth.TheVariants.Content error) = ip_auth_text error

abbrev pub ipv4_read_text : ipv4.HeaderReadError → List ℕ
ipv4_read_text (ipv4.TheVariants.Io fault) = codes "IPv4 Header IO Error: " ++ io_text fault
ipv4_read_text (ipv4.TheVariants.Content error) = ipv4_text error

abbrev pub ipv6_read_text : ipv6.HeaderReadError → List ℕ
ipv6_read_text (ipv6.TheVariants.Io fault) = codes "IPv6 Header IO Error: " ++ io_text fault
ipv6_read_text (ipv6.TheVariants.Content error) = ipv6_text error

abbrev pub ipv6_exts_read_text : ipv6_exts.HeaderReadError → List ℕ
ipv6_exts_read_text (ipv6_exts.TheVariants.Io fault) =
    codes "IPv6 Extension Header IO Error: " ++ io_text fault
ipv6_exts_read_text (ipv6_exts.TheVariants.Content error) = ipv6_exts_text error

abbrev pub linux_sll_read_text : linux_sll.HeaderReadError → List ℕ
linux_sll_read_text (linux_sll.TheVariants.Io fault) =
    codes "Linux Cooked Capture v1 (SLL) Header IO Error: " ++ io_text fault
linux_sll_read_text (linux_sll.TheVariants.Content error) = linux_sll_text error

abbrev pub macsec_read_text : macsec.HeaderReadError → List ℕ
macsec_read_text (macsec.TheVariants.Io fault) = codes "MACsec Header IO Error: " ++ io_text fault
macsec_read_text (macsec.TheVariants.Content error) = macsec_text error

abbrev pub tcp_read_text : tcp.HeaderReadError → List ℕ
tcp_read_text (tcp.TheVariants.Io fault) = codes "TCP Header IO Error: " ++ io_text fault
tcp_read_text (tcp.TheVariants.Content error) = tcp_text error
