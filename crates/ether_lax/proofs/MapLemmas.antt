-- Parts of packets are refused by what their own readers refuse.
use Rattle.std.proofs.Common.{◌≡◌, ℕ, Bool, true, false, cond, List, length, take, get_or, Option, Some, None, refl, sym, ap, ◌∙◌, arith}
use Rattle.std.specs.Prelude.{◌==◌, ◌&&◌, nat_lt, option_map}
use Rattle.std.proofs.lemmas.List.{length-take-le, take_all}
use Rattle.wire_base.specs.Bytes.{be16_at, flag_at}
use Rattle.ether_link.specs.Form.{Form, or_else, header_len, refusal, no_map, IsMapped}
use Rattle.ether_link.specs.Arp.{arp_form}
use Rattle.ether_link.specs.Ethernet2.{ethernet2_form}
use Rattle.ether_link.specs.LinuxSll.{linux_sll_slice_form, is_known_hardware}
use Rattle.ether_link.specs.Macsec.{macsec_slice_form, is_unmodified, short_len}
use Rattle.ether_link.specs.Vlan.{vlan_form}
use Rattle.ether_link.specs.declared.err.length.LenError.{LenError}
use Rattle.ether_link.specs.declared.err.linux_sll.HeaderError as linux_sll
use Rattle.ether_link.specs.declared.err.linux_sll.HeaderSliceError as linux_sll_slice
use Rattle.ether_link.specs.declared.err.macsec.HeaderError as macsec
use Rattle.ether_link.specs.declared.err.macsec.HeaderSliceError as macsec_slice
use Rattle.ether_link.specs.declared.layout.PartKind.{PartKind}
use Rattle.ether_link.specs.declared.layout.PartKind.TheVariants as kind
use Rattle.ether_link.proofs.FormLemmas.{has_header}
use Rattle.ether_link.proofs.MapLemmas.{cond-map, refusal-mapped, accepts-mapped, refuses-mapped}
use Rattle.ether_ip.specs.Chain.{chain_errors}
use Rattle.ether_ip.specs.ExtensionGrammar.{extension_form_of}
use Rattle.ether_ip.specs.Icmpv4.{icmpv4_form}
use Rattle.ether_ip.specs.Icmpv6.{icmpv6_form}
use Rattle.ether_ip.specs.Ip.{ip_slice_form}
use Rattle.ether_ip.specs.PacketGrammar.{packet_grammar}
use Rattle.ether_ip.specs.Tcp.{tcp_slice_form, tcp_data_offset}
use Rattle.ether_ip.specs.Udp.{udp_form}
use Rattle.ether_ip.specs.Version.{ip_version, ihl}
use Rattle.ether_ip.specs.declared.err.ip.HeaderError as ip
use Rattle.ether_ip.specs.declared.err.ip.LaxHeaderSliceError as ip_slice
use Rattle.ether_ip.specs.declared.err.ip_auth.HeaderError.TheVariants.{ZeroPayloadLen}
use Rattle.ether_ip.specs.declared.err.ipv6_exts.HeaderError.TheVariants.{IpAuth}
use Rattle.ether_ip.specs.declared.err.ipv6_exts.HeaderSliceError as chain
use Rattle.ether_ip.specs.declared.err.packet.SliceError.{SliceError}
use Rattle.ether_ip.specs.declared.err.packet.SliceError.TheVariants.{Len, LinuxSll, Macsec, Ip, Tcp}
use Rattle.ether_ip.specs.declared.err.tcp.HeaderError as tcp
use Rattle.ether_ip.specs.declared.err.tcp.HeaderSliceError as tcp_slice
use Rattle.ether_ip.proofs.IpLemmas.{header_has_room}
use Rattle.ether_lax.specs.Refusals.{IsChainKind, refusal_of}

-- a refusal, as one of a part of a packet
abbrev pub of_macsec : macsec_slice.HeaderSliceError → SliceError
of_macsec (macsec_slice.TheVariants.Len error) = Len error
of_macsec (macsec_slice.TheVariants.Content error) = Macsec error

abbrev pub of_linux_sll : linux_sll_slice.HeaderSliceError → SliceError
of_linux_sll (linux_sll_slice.TheVariants.Len error) = Len error
of_linux_sll (linux_sll_slice.TheVariants.Content error) = LinuxSll error

abbrev pub of_ip : ip_slice.LaxHeaderSliceError → SliceError
of_ip (ip_slice.TheVariants.Len error) = Len error
of_ip (ip_slice.TheVariants.Content error) = Ip error

abbrev pub of_tcp : tcp_slice.HeaderSliceError → SliceError
of_tcp (tcp_slice.TheVariants.Len error) = Len error
of_tcp (tcp_slice.TheVariants.Content error) = Tcp error

first_of-map : {E F : Type 0} (f : E → F) (a b : Bool) (x y : E)
    → or_else (cond a (Some (f x)) None) (cond b None (Some (f y))) ≡ option_map f (or_else (cond a (Some x) None) (cond b None (Some y)))
first_of-map f true b x y = refl
first_of-map f false true x y = refl
first_of-map f false false x y = refl

by_version-map : {E F : Type 0} (f : E → F) (four few six : Bool) (x y : E)
    → cond four (cond few (Some (f x)) None) (cond six None (Some (f y))) ≡ option_map f (cond four (cond few (Some x) None) (cond six None (Some y)))
by_version-map f true true six x y = refl
by_version-map f true false six x y = refl
by_version-map f false few true x y = refl
by_version-map f false few false x y = refl

ethernet2_mapped : IsMapped Len (ethernet2_form no_map) (packet_grammar.form_of kind.Ethernet2)
ethernet2_mapped = record {
  least = refl;
  layer = refl;
  early = λ head. refl;
  more = λ head. refl;
  whole = λ head. refl;
  source = refl;
  late = λ head. refl;
  alone = λ head. refl;
  wrong_len = λ error. refl;
}

vlan_mapped : IsMapped Len (vlan_form no_map) (packet_grammar.form_of kind.Vlan)
vlan_mapped = record {
  least = refl;
  layer = refl;
  early = λ head. refl;
  more = λ head. refl;
  whole = λ head. refl;
  source = refl;
  late = λ head. refl;
  alone = λ head. refl;
  wrong_len = λ error. refl;
}

arp_mapped : IsMapped Len (arp_form no_map) (packet_grammar.form_of kind.Arp)
arp_mapped = record {
  least = refl;
  layer = refl;
  early = λ head. refl;
  more = λ head. refl;
  whole = λ head. refl;
  source = refl;
  late = λ head. refl;
  alone = λ head. refl;
  wrong_len = λ error. refl;
}

udp_mapped : IsMapped Len (udp_form no_map) (packet_grammar.form_of kind.Udp)
udp_mapped = record {
  least = refl;
  layer = refl;
  early = λ head. refl;
  more = λ head. refl;
  whole = λ head. refl;
  source = refl;
  late = λ head. refl;
  alone = λ head. refl;
  wrong_len = λ error. refl;
}

icmpv4_mapped : IsMapped Len (icmpv4_form no_map) (packet_grammar.form_of kind.Icmpv4)
icmpv4_mapped = record {
  least = refl;
  layer = refl;
  early = λ head. refl;
  more = λ head. refl;
  whole = λ head. refl;
  source = refl;
  late = λ head. refl;
  alone = λ head. refl;
  wrong_len = λ error. refl;
}

icmpv6_mapped : IsMapped Len (icmpv6_form no_map) (packet_grammar.form_of kind.Icmpv6)
icmpv6_mapped = record {
  least = refl;
  layer = refl;
  early = λ head. refl;
  more = λ head. refl;
  whole = λ head. refl;
  source = refl;
  late = λ head. refl;
  alone = λ head. refl;
  wrong_len = λ error. refl;
}

pub macsec_mapped : IsMapped of_macsec (macsec_slice_form) (packet_grammar.form_of kind.Macsec)
macsec_mapped = record {
  least = refl;
  layer = refl;
  early = λ head. cond-map of_macsec (flag_at head 0 7) (macsec_slice.TheVariants.Content macsec.TheVariants.UnexpectedVersion);
  more = λ head. refl;
  whole = λ head. refl;
  source = refl;
  late = λ head. cond-map of_macsec (is_unmodified head && (short_len head == 1)) (macsec_slice.TheVariants.Content macsec.TheVariants.InvalidUnmodifiedShortLen);
  alone = λ head. refl;
  wrong_len = λ error. refl;
}

linux_sll_mapped : IsMapped of_linux_sll (linux_sll_slice_form) (packet_grammar.form_of kind.LinuxSll)
linux_sll_mapped = record {
  least = refl;
  layer = refl;
  early = λ head. first_of-map of_linux_sll (nat_lt 4 (be16_at head 0)) (is_known_hardware (be16_at head 2)) (linux_sll_slice.TheVariants.Content (linux_sll.TheVariants.UnsupportedPacketTypeField (be16_at head 0))) (linux_sll_slice.TheVariants.Content (linux_sll.TheVariants.UnsupportedArpHardwareId (record { 0 = be16_at head 2 })));
  more = λ head. refl;
  whole = λ head. refl;
  source = refl;
  late = λ head. refl;
  alone = λ head. refl;
  wrong_len = λ error. refl;
}

pub ip_mapped : IsMapped of_ip (ip_slice_form) (packet_grammar.form_of kind.Ip)
ip_mapped = record {
  least = refl;
  layer = refl;
  early = λ head. by_version-map of_ip (ip_version head == 4) (nat_lt (ihl head) 5) (ip_version head == 6) (ip_slice.TheVariants.Content (ip.TheVariants.Ipv4HeaderLengthSmallerThanHeader (ihl head))) (ip_slice.TheVariants.Content (ip.TheVariants.UnsupportedIpVersion (ip_version head)));
  more = λ head. refl;
  whole = λ head. refl;
  source = refl;
  late = λ head. refl;
  alone = λ head. refl;
  wrong_len = λ error. refl;
}

tcp_mapped : IsMapped of_tcp (tcp_slice_form) (packet_grammar.form_of kind.Tcp)
tcp_mapped = record {
  least = refl;
  layer = refl;
  early = λ head. cond-map of_tcp (nat_lt (tcp_data_offset head) 5) (tcp_slice.TheVariants.Content (tcp.TheVariants.DataOffsetTooSmall (tcp_data_offset head)));
  more = λ head. refl;
  whole = λ head. refl;
  source = refl;
  late = λ head. refl;
  alone = λ head. refl;
  wrong_len = λ error. refl;
}

mapped-HopByHop : IsMapped (refusal_of kind.HopByHop) (extension_form_of chain_errors kind.HopByHop) (packet_grammar.form_of kind.HopByHop)
mapped-HopByHop = record {
  least = refl;
  layer = refl;
  early = λ head. refl;
  more = λ head. refl;
  whole = λ head. refl;
  source = refl;
  late = λ head. refl;
  alone = λ head. refl;
  wrong_len = λ error. refl;
}

mapped-LateHopByHop : IsMapped (refusal_of kind.LateHopByHop) (extension_form_of chain_errors kind.LateHopByHop) (packet_grammar.form_of kind.LateHopByHop)
mapped-LateHopByHop = record {
  least = refl;
  layer = refl;
  early = λ head. refl;
  more = λ head. refl;
  whole = λ head. refl;
  source = refl;
  late = λ head. refl;
  alone = λ head. refl;
  wrong_len = λ error. refl;
}

mapped-Route : IsMapped (refusal_of kind.Route) (extension_form_of chain_errors kind.Route) (packet_grammar.form_of kind.Route)
mapped-Route = record {
  least = refl;
  layer = refl;
  early = λ head. refl;
  more = λ head. refl;
  whole = λ head. refl;
  source = refl;
  late = λ head. refl;
  alone = λ head. refl;
  wrong_len = λ error. refl;
}

mapped-Fragment : IsMapped (refusal_of kind.Fragment) (extension_form_of chain_errors kind.Fragment) (packet_grammar.form_of kind.Fragment)
mapped-Fragment = record {
  least = refl;
  layer = refl;
  early = λ head. refl;
  more = λ head. refl;
  whole = λ head. refl;
  source = refl;
  late = λ head. refl;
  alone = λ head. refl;
  wrong_len = λ error. refl;
}

mapped-DestinationOptions : IsMapped (refusal_of kind.DestinationOptions) (extension_form_of chain_errors kind.DestinationOptions) (packet_grammar.form_of kind.DestinationOptions)
mapped-DestinationOptions = record {
  least = refl;
  layer = refl;
  early = λ head. refl;
  more = λ head. refl;
  whole = λ head. refl;
  source = refl;
  late = λ head. refl;
  alone = λ head. refl;
  wrong_len = λ error. refl;
}

mapped-Ipv4Auth : IsMapped (refusal_of kind.Ipv4Auth) (extension_form_of chain_errors kind.Ipv4Auth) (packet_grammar.form_of kind.Ipv4Auth)
mapped-Ipv4Auth = record {
  least = refl;
  layer = refl;
  early = λ head. cond-map (refusal_of kind.Ipv4Auth) (get_or head 1 0 == 0) (chain.TheVariants.Content (IpAuth ZeroPayloadLen));
  more = λ head. refl;
  whole = λ head. refl;
  source = refl;
  late = λ head. refl;
  alone = λ head. refl;
  wrong_len = λ error. refl;
}

mapped-Ipv6Auth : IsMapped (refusal_of kind.Ipv6Auth) (extension_form_of chain_errors kind.Ipv6Auth) (packet_grammar.form_of kind.Ipv6Auth)
mapped-Ipv6Auth = record {
  least = refl;
  layer = refl;
  early = λ head. cond-map (refusal_of kind.Ipv6Auth) (get_or head 1 0 == 0) (chain.TheVariants.Content (IpAuth ZeroPayloadLen));
  more = λ head. refl;
  whole = λ head. refl;
  source = refl;
  late = λ head. refl;
  alone = λ head. refl;
  wrong_len = λ error. refl;
}

chain_mapped : (part : PartKind) → IsChainKind part → IsMapped (refusal_of part) (extension_form_of chain_errors part) (packet_grammar.form_of part)
chain_mapped kind.HopByHop is = mapped-HopByHop
chain_mapped kind.LateHopByHop is = mapped-LateHopByHop
chain_mapped kind.Route is = mapped-Route
chain_mapped kind.Fragment is = mapped-Fragment
chain_mapped kind.DestinationOptions is = mapped-DestinationOptions
chain_mapped kind.Ipv4Auth is = mapped-Ipv4Auth
chain_mapped kind.Ipv6Auth is = mapped-Ipv6Auth
chain_mapped other is = absurd is

pub ethernet2_accepts : (bytes : List ℕ) → refusal (ethernet2_form no_map) bytes ≡ None → refusal (packet_grammar.form_of kind.Ethernet2) bytes ≡ None
ethernet2_accepts bytes is = accepts-mapped Len (ethernet2_form no_map) (packet_grammar.form_of kind.Ethernet2) ethernet2_mapped bytes is

pub ethernet2_refuses : (bytes : List ℕ) (why : LenError) → refusal (ethernet2_form no_map) bytes ≡ Some why → refusal (packet_grammar.form_of kind.Ethernet2) bytes ≡ Some (Len why)
ethernet2_refuses bytes why is = refuses-mapped Len (ethernet2_form no_map) (packet_grammar.form_of kind.Ethernet2) ethernet2_mapped bytes why is

pub vlan_accepts : (bytes : List ℕ) → refusal (vlan_form no_map) bytes ≡ None → refusal (packet_grammar.form_of kind.Vlan) bytes ≡ None
vlan_accepts bytes is = accepts-mapped Len (vlan_form no_map) (packet_grammar.form_of kind.Vlan) vlan_mapped bytes is

pub vlan_refuses : (bytes : List ℕ) (why : LenError) → refusal (vlan_form no_map) bytes ≡ Some why → refusal (packet_grammar.form_of kind.Vlan) bytes ≡ Some (Len why)
vlan_refuses bytes why is = refuses-mapped Len (vlan_form no_map) (packet_grammar.form_of kind.Vlan) vlan_mapped bytes why is

pub arp_accepts : (bytes : List ℕ) → refusal (arp_form no_map) bytes ≡ None → refusal (packet_grammar.form_of kind.Arp) bytes ≡ None
arp_accepts bytes is = accepts-mapped Len (arp_form no_map) (packet_grammar.form_of kind.Arp) arp_mapped bytes is

pub arp_refuses : (bytes : List ℕ) (why : LenError) → refusal (arp_form no_map) bytes ≡ Some why → refusal (packet_grammar.form_of kind.Arp) bytes ≡ Some (Len why)
arp_refuses bytes why is = refuses-mapped Len (arp_form no_map) (packet_grammar.form_of kind.Arp) arp_mapped bytes why is

pub udp_accepts : (bytes : List ℕ) → refusal (udp_form no_map) bytes ≡ None → refusal (packet_grammar.form_of kind.Udp) bytes ≡ None
udp_accepts bytes is = accepts-mapped Len (udp_form no_map) (packet_grammar.form_of kind.Udp) udp_mapped bytes is

pub udp_refuses : (bytes : List ℕ) (why : LenError) → refusal (udp_form no_map) bytes ≡ Some why → refusal (packet_grammar.form_of kind.Udp) bytes ≡ Some (Len why)
udp_refuses bytes why is = refuses-mapped Len (udp_form no_map) (packet_grammar.form_of kind.Udp) udp_mapped bytes why is

pub icmpv4_accepts : (bytes : List ℕ) → refusal (icmpv4_form no_map) bytes ≡ None → refusal (packet_grammar.form_of kind.Icmpv4) bytes ≡ None
icmpv4_accepts bytes is = accepts-mapped Len (icmpv4_form no_map) (packet_grammar.form_of kind.Icmpv4) icmpv4_mapped bytes is

pub icmpv4_refuses : (bytes : List ℕ) (why : LenError) → refusal (icmpv4_form no_map) bytes ≡ Some why → refusal (packet_grammar.form_of kind.Icmpv4) bytes ≡ Some (Len why)
icmpv4_refuses bytes why is = refuses-mapped Len (icmpv4_form no_map) (packet_grammar.form_of kind.Icmpv4) icmpv4_mapped bytes why is

pub icmpv6_accepts : (bytes : List ℕ) → refusal (icmpv6_form no_map) bytes ≡ None → refusal (packet_grammar.form_of kind.Icmpv6) bytes ≡ None
icmpv6_accepts bytes is = accepts-mapped Len (icmpv6_form no_map) (packet_grammar.form_of kind.Icmpv6) icmpv6_mapped bytes is

pub icmpv6_refuses : (bytes : List ℕ) (why : LenError) → refusal (icmpv6_form no_map) bytes ≡ Some why → refusal (packet_grammar.form_of kind.Icmpv6) bytes ≡ Some (Len why)
icmpv6_refuses bytes why is = refuses-mapped Len (icmpv6_form no_map) (packet_grammar.form_of kind.Icmpv6) icmpv6_mapped bytes why is

pub macsec_accepts : (bytes : List ℕ) → refusal (macsec_slice_form) bytes ≡ None → refusal (packet_grammar.form_of kind.Macsec) bytes ≡ None
macsec_accepts bytes is = accepts-mapped of_macsec (macsec_slice_form) (packet_grammar.form_of kind.Macsec) macsec_mapped bytes is

pub macsec_refuses : (bytes : List ℕ) (why : macsec_slice.HeaderSliceError) → refusal (macsec_slice_form) bytes ≡ Some why → refusal (packet_grammar.form_of kind.Macsec) bytes ≡ Some (of_macsec why)
macsec_refuses bytes why is = refuses-mapped of_macsec (macsec_slice_form) (packet_grammar.form_of kind.Macsec) macsec_mapped bytes why is

pub linux_sll_accepts : (bytes : List ℕ) → refusal (linux_sll_slice_form) bytes ≡ None → refusal (packet_grammar.form_of kind.LinuxSll) bytes ≡ None
linux_sll_accepts bytes is = accepts-mapped of_linux_sll (linux_sll_slice_form) (packet_grammar.form_of kind.LinuxSll) linux_sll_mapped bytes is

pub linux_sll_refuses : (bytes : List ℕ) (why : linux_sll_slice.HeaderSliceError) → refusal (linux_sll_slice_form) bytes ≡ Some why → refusal (packet_grammar.form_of kind.LinuxSll) bytes ≡ Some (of_linux_sll why)
linux_sll_refuses bytes why is = refuses-mapped of_linux_sll (linux_sll_slice_form) (packet_grammar.form_of kind.LinuxSll) linux_sll_mapped bytes why is

pub ip_accepts : (bytes : List ℕ) → refusal (ip_slice_form) bytes ≡ None → refusal (packet_grammar.form_of kind.Ip) bytes ≡ None
ip_accepts bytes is = accepts-mapped of_ip (ip_slice_form) (packet_grammar.form_of kind.Ip) ip_mapped bytes is

pub ip_refuses : (bytes : List ℕ) (why : ip_slice.LaxHeaderSliceError) → refusal (ip_slice_form) bytes ≡ Some why → refusal (packet_grammar.form_of kind.Ip) bytes ≡ Some (of_ip why)
ip_refuses bytes why is = refuses-mapped of_ip (ip_slice_form) (packet_grammar.form_of kind.Ip) ip_mapped bytes why is

pub tcp_accepts : (bytes : List ℕ) → refusal (tcp_slice_form) bytes ≡ None → refusal (packet_grammar.form_of kind.Tcp) bytes ≡ None
tcp_accepts bytes is = accepts-mapped of_tcp (tcp_slice_form) (packet_grammar.form_of kind.Tcp) tcp_mapped bytes is

pub tcp_refuses : (bytes : List ℕ) (why : tcp_slice.HeaderSliceError) → refusal (tcp_slice_form) bytes ≡ Some why → refusal (packet_grammar.form_of kind.Tcp) bytes ≡ Some (of_tcp why)
tcp_refuses bytes why is = refuses-mapped of_tcp (tcp_slice_form) (packet_grammar.form_of kind.Tcp) tcp_mapped bytes why is

pub chain_accepts : (part : PartKind) (bytes : List ℕ) → IsChainKind part → refusal (extension_form_of chain_errors part) bytes ≡ None
    → refusal (packet_grammar.form_of part) bytes ≡ None
chain_accepts part bytes one is = accepts-mapped (refusal_of part) (extension_form_of chain_errors part) (packet_grammar.form_of part) (chain_mapped part one) bytes is

pub chain_refuses : (part : PartKind) (bytes : List ℕ) (why : chain.HeaderSliceError) → IsChainKind part
    → refusal (extension_form_of chain_errors part) bytes ≡ Some why → refusal (packet_grammar.form_of part) bytes ≡ Some (refusal_of part why)
chain_refuses part bytes why one is =
    refuses-mapped (refusal_of part) (extension_form_of chain_errors part) (packet_grammar.form_of part) (chain_mapped part one) bytes why is
