-- What the two errors that take in all others print: the inner text.
use Rattle.std.specs.Prelude.{ℕ, List}
use Rattle.ether_link.specs.Texts.{len_text, linux_sll_text, macsec_text}
use Rattle.ether_ip.specs.TextsIp.{ip_text, ip_auth_text, ipv4_text, ipv6_text, ipv6_exts_text}
use Rattle.ether_ip.specs.TextsTransport.{tcp_text}
use Rattle.ether_err.specs.IoTexts.{io_text}
use Rattle.ether_err.specs.declared.from_slice_error.FromSliceError as slice
use Rattle.ether_err.specs.declared.read_error.ReadError as read

abbrev pub from_slice_text : slice.FromSliceError → List ℕ
from_slice_text (slice.TheVariants.Len error) = len_text error
from_slice_text (slice.TheVariants.LinuxSll error) = linux_sll_text error
from_slice_text (slice.TheVariants.Macsec error) = macsec_text error
from_slice_text (slice.TheVariants.Ip error) = ip_text error
from_slice_text (slice.TheVariants.IpAuth error) = ip_auth_text error
from_slice_text (slice.TheVariants.Ipv4 error) = ipv4_text error
from_slice_text (slice.TheVariants.Ipv6 error) = ipv6_text error
from_slice_text (slice.TheVariants.Ipv6Exts error) = ipv6_exts_text error
from_slice_text (slice.TheVariants.Tcp error) = tcp_text error

abbrev pub read_text : read.ReadError → List ℕ
read_text (read.TheVariants.Io fault) = io_text fault
read_text (read.TheVariants.Len error) = len_text error
read_text (read.TheVariants.LinuxSll error) = linux_sll_text error
read_text (read.TheVariants.Macsec error) = macsec_text error
read_text (read.TheVariants.Ip error) = ip_text error
read_text (read.TheVariants.IpAuth error) = ip_auth_text error
read_text (read.TheVariants.Ipv4 error) = ipv4_text error
read_text (read.TheVariants.Ipv6 error) = ipv6_text error
read_text (read.TheVariants.Ipv6Exts error) = ipv6_exts_text error
read_text (read.TheVariants.Tcp error) = tcp_text error
