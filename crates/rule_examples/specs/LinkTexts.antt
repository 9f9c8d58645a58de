-- What the errors of the link layer print.
use Rattle.std.specs.Prelude.{◌≡◌, ℕ, List, [], ◌∷◌, map, codes}
use Rattle.ether_link.specs.Texts.{layer_word, len_text, linux_sll_slice_text, linux_sll_text, macsec_slice_text, macsec_text}
use Rattle.ether_link.specs.declared.len_source.LenSource.TheVariants.{Slice}
use Rattle.ether_link.specs.declared.err.layers.Layer.TheVariants.{Ethernet2Header, VlanHeader, MacsecHeader, Arp, IpHeader, Ipv4Header, Ipv6Header, IpAuthHeader, Ipv6HopByHopHeader, Ipv6RouteHeader, Ipv6FragHeader, Ipv6DestOptionsHeader, UdpHeader, TcpHeader, Icmpv4, Icmpv4Timestamp, Icmpv4TimestampReply, Icmpv6, LinuxSllHeader}
use Rattle.ether_link.specs.declared.err.length.LenError.{LenError}
use Rattle.ether_link.specs.declared.err.linux_sll.HeaderError.TheVariants.{UnsupportedPacketTypeField, UnsupportedArpHardwareId}
use Rattle.ether_link.specs.declared.err.linux_sll.HeaderSliceError as linux_sll
use Rattle.ether_link.specs.declared.err.macsec.HeaderError.TheVariants.{UnexpectedVersion, InvalidUnmodifiedShortLen}
use Rattle.ether_link.specs.declared.err.macsec.HeaderSliceError as macsec

-- the words of the layers
pub record LayerWords : Type 0 where
  pub link : map layer_word (Ethernet2Header ∷ VlanHeader ∷ MacsecHeader ∷ Arp ∷ LinuxSllHeader ∷ [])
      ≡ codes "ethernet" ∷ codes "vlan" ∷ codes "macsec" ∷ codes "arp" ∷ codes "linux-sll" ∷ []
  pub ip : map layer_word (IpHeader ∷ Ipv4Header ∷ Ipv6Header ∷ IpAuthHeader ∷ [])
      ≡ codes "ip" ∷ codes "ipv4" ∷ codes "ipv6" ∷ codes "auth" ∷ []
  pub extensions : map layer_word
      (Ipv6HopByHopHeader ∷ Ipv6RouteHeader ∷ Ipv6FragHeader ∷ Ipv6DestOptionsHeader ∷ [])
      ≡ codes "hop-by-hop" ∷ codes "route" ∷ codes "frag" ∷ codes "dest-options" ∷ []
  pub transports : map layer_word
      (UdpHeader ∷ TcpHeader ∷ Icmpv4 ∷ Icmpv4Timestamp ∷ Icmpv4TimestampReply ∷ Icmpv6 ∷ [])
      ≡ codes "udp" ∷ codes "tcp" ∷ codes "icmpv4" ∷ codes "icmpv4-timestamp" ∷ codes "icmpv4-timestamp-reply"
      ∷ codes "icmpv6" ∷ []

-- seven bytes where 120 are needed, at byte 5
abbrev pub short : LenError
short = record {
  required_len = 120;
  len = 7;
  len_source = Slice;
  layer = TcpHeader;
  layer_start_offset = 5;
}

abbrev pub short_text : List ℕ
short_text = codes "tcp: 120 bytes needed, 7 there"

pub record LinkTexts : Type 0 where
  pub len : len_text short ≡ short_text
  pub macsec_version : macsec_text UnexpectedVersion ≡ codes "macsec version bit set"
  pub macsec_len : macsec_text InvalidUnmodifiedShortLen ≡ codes "macsec short length 1"
  pub macsec_slice : map macsec_slice_text
      (macsec.TheVariants.Len short ∷ macsec.TheVariants.Content InvalidUnmodifiedShortLen ∷ [])
      ≡ short_text ∷ codes "macsec short length 1" ∷ []
  pub packet_type : linux_sll_text (UnsupportedPacketTypeField 65535) ≡ codes "linux sll packet type 65535"
  pub hardware : linux_sll_text (UnsupportedArpHardwareId (record { 0 = 10 })) ≡ codes "linux sll hardware type 10"
  pub linux_sll_slice : map linux_sll_slice_text
      (linux_sll.TheVariants.Len short ∷ linux_sll.TheVariants.Content (UnsupportedPacketTypeField 5) ∷ [])
      ≡ short_text ∷ codes "linux sll packet type 5" ∷ []
