-- What the errors of IP headers, of their extensions and of TCP print.
use Rattle.std.specs.Prelude.{◌≡◌, [], ◌∷◌, map, codes}
use Rattle.ether_ip.specs.TextsIp.{ip_auth_text, ip_auth_header_slice_text, ipv4_text, ipv4_header_slice_text, ipv4_slice_text, ipv6_exts_text, ipv6_exts_header_slice_text, ipv6_text, ipv6_header_slice_text, ipv6_slice_text, ip_exts_text, ip_exts_slice_text, ip_text, ip_headers_text, ip_headers_slice_text, ip_slice_text, lax_header_slice_text}
use Rattle.ether_ip.specs.TextsPacket.{packet_text}
use Rattle.ether_ip.specs.TextsTransport.{tcp_slice_text, tcp_text}
use Rattle.ether_link.specs.declared.err.linux_sll.HeaderError.TheVariants.{UnsupportedPacketTypeField}
use Rattle.ether_link.specs.declared.err.macsec.HeaderError.TheVariants.{UnexpectedVersion}
use Rattle.ether_ip.specs.declared.err.ip_auth.HeaderError as ip_auth
use Rattle.ether_ip.specs.declared.err.ip_auth.HeaderSliceError as ip_auth_slice
use Rattle.ether_ip.specs.declared.err.ipv4.HeaderError as ipv4
use Rattle.ether_ip.specs.declared.err.ipv4.HeaderSliceError as ipv4_header
use Rattle.ether_ip.specs.declared.err.ipv4.SliceError as ipv4_packet
use Rattle.ether_ip.specs.declared.err.ipv6.HeaderError as ipv6
use Rattle.ether_ip.specs.declared.err.ipv6.HeaderSliceError as ipv6_header
use Rattle.ether_ip.specs.declared.err.ipv6.SliceError as ipv6_packet
use Rattle.ether_ip.specs.declared.err.ipv6_exts.HeaderError as ipv6_exts
use Rattle.ether_ip.specs.declared.err.ipv6_exts.HeaderSliceError as ipv6_exts_slice
use Rattle.ether_ip.specs.declared.err.ip_exts.HeaderError as ip_exts
use Rattle.ether_ip.specs.declared.err.ip_exts.HeadersSliceError as ip_exts_slice
use Rattle.ether_ip.specs.declared.err.ip.HeaderError as ip
use Rattle.ether_ip.specs.declared.err.ip.HeadersError as ip_headers
use Rattle.ether_ip.specs.declared.err.ip.HeadersSliceError as ip_headers_slice
use Rattle.ether_ip.specs.declared.err.ip.SliceError as ip_packet
use Rattle.ether_ip.specs.declared.err.ip.LaxHeaderSliceError as lax
use Rattle.ether_ip.specs.declared.err.packet.SliceError as packet
use Rattle.ether_ip.specs.declared.err.tcp.HeaderError as tcp
use Rattle.ether_ip.specs.declared.err.tcp.HeaderSliceError as tcp_slice
use Rattle.rule_examples.specs.LinkTexts.{short, short_text}

-- an error of each header, and its text
abbrev pub auth_error : ip_auth.HeaderError
auth_error = ip_auth.TheVariants.ZeroPayloadLen

abbrev pub ipv4_error : ipv4.HeaderError
ipv4_error = ipv4.TheVariants.UnexpectedVersion 15

abbrev pub ipv6_error : ipv6.HeaderError
ipv6_error = ipv6.TheVariants.UnexpectedVersion 4

abbrev pub chain_error : ipv6_exts.HeaderError
chain_error = ipv6_exts.TheVariants.HopByHopNotAtStart

abbrev pub ip_error : ip.HeaderError
ip_error = ip.TheVariants.UnsupportedIpVersion 5

abbrev pub tcp_error : tcp.HeaderError
tcp_error = tcp.TheVariants.DataOffsetTooSmall 4

pub record HeaderTexts : Type 0 where
  pub auth : ip_auth_text auth_error ≡ codes "auth length 0"
  pub ipv4_version : ipv4_text ipv4_error ≡ codes "ipv4 version 15"
  pub ipv4_len : ipv4_text (ipv4.TheVariants.HeaderLengthSmallerThanHeader 4) ≡ codes "ipv4 header length 4"
  pub ipv6_version : ipv6_text ipv6_error ≡ codes "ipv6 version 4"
  pub chain : ipv6_exts_text chain_error ≡ codes "hop-by-hop not first"
  pub chain_auth : ipv6_exts_text (ipv6_exts.TheVariants.IpAuth auth_error) ≡ codes "auth length 0"
  pub ip_version : ip_text ip_error ≡ codes "ip version 5"
  pub ip_len : ip_text (ip.TheVariants.Ipv4HeaderLengthSmallerThanHeader 4) ≡ codes "ipv4 header length 4"
  pub tcp : tcp_text tcp_error ≡ codes "tcp data offset 4"
  pub extensions : map ip_exts_text (ip_exts.TheVariants.Ipv4Ext auth_error ∷ ip_exts.TheVariants.Ipv6Ext chain_error ∷ [])
      ≡ codes "auth length 0" ∷ codes "hop-by-hop not first" ∷ []
  pub headers : map ip_headers_text
      (ip_headers.TheVariants.Ip ip_error ∷ ip_headers.TheVariants.Ipv4Ext auth_error
      ∷ ip_headers.TheVariants.Ipv6Ext chain_error ∷ [])
      ≡ codes "ip version 5" ∷ codes "auth length 0" ∷ codes "hop-by-hop not first" ∷ []

-- of a slice: its length, or what is in it
pub record SliceTexts : Type 0 where
  pub auth : map ip_auth_header_slice_text (ip_auth_slice.TheVariants.Len short ∷ ip_auth_slice.TheVariants.Content auth_error ∷ [])
      ≡ short_text ∷ codes "auth length 0" ∷ []
  pub ipv4 : map ipv4_header_slice_text (ipv4_header.TheVariants.Len short ∷ ipv4_header.TheVariants.Content ipv4_error ∷ [])
      ≡ short_text ∷ codes "ipv4 version 15" ∷ []
  pub ipv4_packet : map ipv4_slice_text
      (ipv4_packet.TheVariants.Len short ∷ ipv4_packet.TheVariants.Header ipv4_error
      ∷ ipv4_packet.TheVariants.Exts auth_error ∷ [])
      ≡ short_text ∷ codes "ipv4 version 15" ∷ codes "auth length 0" ∷ []
  pub ipv6 : map ipv6_header_slice_text (ipv6_header.TheVariants.Len short ∷ ipv6_header.TheVariants.Content ipv6_error ∷ [])
      ≡ short_text ∷ codes "ipv6 version 4" ∷ []
  pub ipv6_packet : map ipv6_slice_text
      (ipv6_packet.TheVariants.Len short ∷ ipv6_packet.TheVariants.Header ipv6_error
      ∷ ipv6_packet.TheVariants.Exts chain_error ∷ [])
      ≡ short_text ∷ codes "ipv6 version 4" ∷ codes "hop-by-hop not first" ∷ []
  pub chain : map ipv6_exts_header_slice_text
      (ipv6_exts_slice.TheVariants.Len short ∷ ipv6_exts_slice.TheVariants.Content chain_error ∷ [])
      ≡ short_text ∷ codes "hop-by-hop not first" ∷ []
  pub extensions : map ip_exts_slice_text
      (ip_exts_slice.TheVariants.Len short ∷ ip_exts_slice.TheVariants.Content (ip_exts.TheVariants.Ipv4Ext auth_error) ∷ [])
      ≡ short_text ∷ codes "auth length 0" ∷ []
  pub headers : map ip_headers_slice_text
      (ip_headers_slice.TheVariants.Len short ∷ ip_headers_slice.TheVariants.Content (ip_headers.TheVariants.Ip ip_error) ∷ [])
      ≡ short_text ∷ codes "ip version 5" ∷ []
  pub ip_packet : map ip_slice_text
      (ip_packet.TheVariants.Len short ∷ ip_packet.TheVariants.IpHeaders (ip_headers.TheVariants.Ip ip_error) ∷ [])
      ≡ short_text ∷ codes "ip version 5" ∷ []
  pub lax : map lax_header_slice_text (lax.TheVariants.Len short ∷ lax.TheVariants.Content ip_error ∷ [])
      ≡ short_text ∷ codes "ip version 5" ∷ []
  pub tcp : map tcp_slice_text (tcp_slice.TheVariants.Len short ∷ tcp_slice.TheVariants.Content tcp_error ∷ [])
      ≡ short_text ∷ codes "tcp data offset 4" ∷ []

-- of any part of a packet
pub record PacketTexts : Type 0 where
  pub link : map packet_text
      (packet.TheVariants.Len short ∷ packet.TheVariants.LinuxSll (UnsupportedPacketTypeField 5)
      ∷ packet.TheVariants.Macsec UnexpectedVersion ∷ [])
      ≡ short_text ∷ codes "linux sll packet type 5" ∷ codes "macsec version bit set" ∷ []
  pub ip : map packet_text
      (packet.TheVariants.Ip ip_error ∷ packet.TheVariants.Ipv4 ipv4_error ∷ packet.TheVariants.Ipv6 ipv6_error ∷ [])
      ≡ codes "ip version 5" ∷ codes "ipv4 version 15" ∷ codes "ipv6 version 4" ∷ []
  pub above : map packet_text
      (packet.TheVariants.Ipv4Exts auth_error ∷ packet.TheVariants.Ipv6Exts chain_error
      ∷ packet.TheVariants.Tcp tcp_error ∷ [])
      ≡ codes "auth length 0" ∷ codes "hop-by-hop not first" ∷ codes "tcp data offset 4" ∷ []
