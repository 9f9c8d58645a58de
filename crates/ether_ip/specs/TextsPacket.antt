-- What the error of any part of a packet prints.
use Rattle.std.specs.Prelude.{ℕ, List}
use Rattle.ether_link.specs.Texts.{len_text, linux_sll_text, macsec_text}
use Rattle.ether_ip.specs.TextsIp.{ip_text, ip_auth_text, ipv4_text, ipv6_text, ipv6_exts_text}
use Rattle.ether_ip.specs.TextsTransport.{tcp_text}
use Rattle.ether_ip.specs.declared.err.packet.SliceError.{SliceError}
use Rattle.ether_ip.specs.declared.err.packet.SliceError.TheVariants.{Len, LinuxSll, Macsec, Ip, Ipv4, Ipv6, Ipv4Exts, Ipv6Exts, Tcp}

-- the text of the error inside
abbrev pub packet_text : SliceError → List ℕ
packet_text (Len error) = len_text error
packet_text (LinuxSll error) = linux_sll_text error
packet_text (Macsec error) = macsec_text error
packet_text (Ip error) = ip_text error
packet_text (Ipv4 error) = ipv4_text error
packet_text (Ipv6 error) = ipv6_text error
packet_text (Ipv4Exts error) = ip_auth_text error
packet_text (Ipv6Exts error) = ipv6_exts_text error
packet_text (Tcp error) = tcp_text error
