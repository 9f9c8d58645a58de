-- What the errors print.
use Rattle.std.specs.Prelude.{ℕ, List, ◌++◌, codes}
use Rattle.std.specs.Fmt.{decimal}
use Rattle.ether_link.specs.declared.err.layers.Layer.{Layer}
use Rattle.ether_link.specs.declared.err.layers.Layer.TheVariants.{Ethernet2Header, VlanHeader, MacsecHeader, Arp, IpHeader, Ipv4Header, Ipv6Header, IpAuthHeader, Ipv6HopByHopHeader, Ipv6RouteHeader, Ipv6FragHeader, Ipv6DestOptionsHeader, UdpHeader, TcpHeader, Icmpv4, Icmpv4Timestamp, Icmpv4TimestampReply, Icmpv6, LinuxSllHeader}
use Rattle.ether_link.specs.declared.err.length.LenError.{LenError}
use Rattle.ether_link.specs.declared.err.macsec.HeaderError as macsec
use Rattle.ether_link.specs.declared.err.macsec.HeaderSliceError as macsec_slice
use Rattle.ether_link.specs.declared.err.linux_sll.HeaderError as linux_sll
use Rattle.ether_link.specs.declared.err.linux_sll.HeaderSliceError as linux_sll_slice

-- the word of a layer
abbrev pub layer_word : Layer → List ℕ
layer_word Ethernet2Header = codes "ethernet"
layer_word VlanHeader = codes "vlan"
layer_word MacsecHeader = codes "macsec"
layer_word Arp = codes "arp"
layer_word IpHeader = codes "ip"
layer_word Ipv4Header = codes "ipv4"
layer_word Ipv6Header = codes "ipv6"
layer_word IpAuthHeader = codes "auth"
layer_word Ipv6HopByHopHeader = codes "hop-by-hop"
layer_word Ipv6RouteHeader = codes "route"
layer_word Ipv6FragHeader = codes "frag"
layer_word Ipv6DestOptionsHeader = codes "dest-options"
layer_word UdpHeader = codes "udp"
layer_word TcpHeader = codes "tcp"
layer_word Icmpv4 = codes "icmpv4"
layer_word Icmpv4Timestamp = codes "icmpv4-timestamp"
layer_word Icmpv4TimestampReply = codes "icmpv4-timestamp-reply"
layer_word Icmpv6 = codes "icmpv6"
layer_word LinuxSllHeader = codes "linux-sll"

-- a length that is refused
abbrev pub len_text : LenError → List ℕ
len_text error =
    layer_word error.layer ++ (codes ": " ++ (decimal error.required_len
    ++ (codes " bytes needed, " ++ (decimal error.len ++ codes " there"))))

abbrev pub macsec_text : macsec.HeaderError → List ℕ
macsec_text macsec.TheVariants.UnexpectedVersion = codes "macsec version bit set"
macsec_text macsec.TheVariants.InvalidUnmodifiedShortLen = codes "macsec short length 1"

abbrev pub macsec_slice_text : macsec_slice.HeaderSliceError → List ℕ
macsec_slice_text (macsec_slice.TheVariants.Len error) = len_text error
macsec_slice_text (macsec_slice.TheVariants.Content error) = macsec_text error

abbrev pub linux_sll_text : linux_sll.HeaderError → List ℕ
linux_sll_text (linux_sll.TheVariants.UnsupportedPacketTypeField packet_type) =
    codes "linux sll packet type " ++ decimal packet_type
linux_sll_text (linux_sll.TheVariants.UnsupportedArpHardwareId hardware) =
    codes "linux sll hardware type " ++ decimal hardware.0

abbrev pub linux_sll_slice_text : linux_sll_slice.HeaderSliceError → List ℕ
linux_sll_slice_text (linux_sll_slice.TheVariants.Len error) = len_text error
linux_sll_slice_text (linux_sll_slice.TheVariants.Content error) = linux_sll_text error
