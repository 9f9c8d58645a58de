-- The grammar of packets on headers made by hand: what each names, as the standards say.
use Rattle.std.specs.Prelude.{◌≡◌, ℕ, Bool, true, false, List, [], ◌∷◌, ◌++◌, map, replicate, Option, Some, None, option_map}
use Rattle.ether_link.specs.Layout.{Grammar}
use Rattle.ether_link.specs.declared.layout.PartKind.{PartKind}
use Rattle.ether_link.specs.declared.layout.PartKind.TheVariants.{Ethernet2, LinuxSll, Vlan, Macsec, Arp, Ip, HopByHop, LateHopByHop, Route, Fragment, DestinationOptions, Ipv4Auth, Ipv6Auth, Udp, Tcp, Icmpv4, Icmpv6}
use Rattle.ether_link.specs.declared.layout.Turn.{Turn}
use Rattle.ether_ip.specs.ExtensionGrammar.{turn_to}
use Rattle.ether_ip.specs.PacketGrammar.{packet_grammar}

-- what a header of a kind names, behind some link extensions and in a fragment or not
abbrev pub named : PartKind → ℕ → Bool → List ℕ → Option PartKind
named kind held fragmented header =
    option_map (λ turn. turn.kind)
    (packet_grammar.next (record { kind = kind; link_exts = held; fragmented = fragmented }) header)

-- an Ethernet header, a tag and a security tag with an ether type
abbrev pub ethernet : ℕ → ℕ → List ℕ
ethernet high low = replicate 12 0 ++ high ∷ low ∷ []

abbrev pub tag : ℕ → ℕ → List ℕ
tag high low = 0 ∷ 1 ∷ high ∷ low ∷ []

abbrev pub security_tag : ℕ → ℕ → List ℕ
security_tag first short = first ∷ short ∷ 0 ∷ 0 ∷ 0 ∷ 0 ∷ []

-- the header of a cooked packet, of a kind of hardware and with a protocol
abbrev pub cooked : ℕ → ℕ → ℕ → ℕ → List ℕ
cooked hardware_high hardware_low high low =
    0 ∷ 0 ∷ hardware_high ∷ hardware_low ∷ replicate 10 0 ++ high ∷ low ∷ []

-- an IPv4 header with its flags and fragment offset, and a protocol
abbrev pub ipv4 : ℕ → ℕ → ℕ → List ℕ
ipv4 flags offset protocol = 0x45 ∷ 0 ∷ 0 ∷ 20 ∷ 0 ∷ 0 ∷ flags ∷ offset ∷ 64 ∷ protocol ∷ replicate 10 0

-- an IPv6 header with what stands behind it
abbrev pub ipv6 : ℕ → List ℕ
ipv6 next = 0x60 ∷ 0 ∷ 0 ∷ 0 ∷ 0 ∷ 0 ∷ next ∷ 64 ∷ replicate 32 0

-- an extension header of eight bytes with what stands behind it, and a fragment header with its offset and
-- flag
abbrev pub options : ℕ → List ℕ
options next = next ∷ 0 ∷ replicate 6 0

abbrev pub fragment : ℕ → ℕ → ℕ → List ℕ
fragment next high low = next ∷ 0 ∷ high ∷ low ∷ replicate 4 0

-- tags by three ether types, a security tag, ARP, IP of both versions; their neighbours name nothing (IEEE
-- 802.1Q, section 9.6; RFC 7042, appendix B)
abbrev pub NamesByEtherType : Type 0
NamesByEtherType =
    (map (λ low. named Ethernet2 0 false (ethernet 0x08 low)) (0x00 ∷ 0x01 ∷ 0x05 ∷ 0x06 ∷ 0x07 ∷ [])
    ≡ Some Ip ∷ None ∷ None ∷ Some Arp ∷ None ∷ [])
    × (map (λ low. named Ethernet2 0 false (ethernet 0x81 low)) (0x00 ∷ 0x01 ∷ []) ≡ Some Vlan ∷ None ∷ [])
    × (map (λ low. named Ethernet2 0 false (ethernet 0x88 low)) (0xa7 ∷ 0xa8 ∷ 0xe4 ∷ 0xe5 ∷ [])
    ≡ None ∷ Some Vlan ∷ None ∷ Some Macsec ∷ [])
    × (map (λ low. named Ethernet2 0 false (ethernet 0x91 low)) (0x00 ∷ 0x01 ∷ []) ≡ Some Vlan ∷ None ∷ [])
    × (map (λ low. named Ethernet2 0 false (ethernet 0x86 low)) (0xdc ∷ 0xdd ∷ []) ≡ None ∷ Some Ip ∷ [])

-- a third link extension is read, a fourth is not, and IP and ARP are behind any number
abbrev pub HasThreeLinkExtensions : Type 0
HasThreeLinkExtensions =
    (named Vlan 1 false (tag 0x81 0x00) ≡ Some Vlan) × (named Vlan 2 false (tag 0x81 0x00) ≡ None)
    × (named Vlan 1 false (tag 0x88 0xe5) ≡ Some Macsec) × (named Vlan 2 false (tag 0x88 0xe5) ≡ None)
    × (named Vlan 2 false (tag 0x08 0x00) ≡ Some Ip) × (named Vlan 2 false (tag 0x08 0x06) ≡ Some Arp)
    × (option_map (λ turn. turn.link_exts)
    (packet_grammar.next (record { kind = Vlan; link_exts = 1; fragmented = false }) (tag 0x81 0x00))
    ≡ Some 2)

-- an unmodified payload goes on by its ether type, a changed or encrypted one names nothing (IEEE 802.1AE,
-- section 9.5)
abbrev pub NamesBehindSecurityTag : Type 0
NamesBehindSecurityTag =
    (named Macsec 0 false (security_tag 0x00 0 ++ 0x08 ∷ 0x00 ∷ []) ≡ Some Ip)
    × (named Macsec 0 false (security_tag 0x20 0 ++ replicate 8 0 ++ 0x08 ∷ 0x06 ∷ []) ≡ Some Arp)
    × (named Macsec 0 false (security_tag 0x04 0) ≡ None)
    × (named Macsec 0 false (security_tag 0x08 0) ≡ None)
    × (named Macsec 0 false (security_tag 0x0c 0) ≡ None)
    × (named Macsec 2 false (security_tag 0x00 0 ++ 0x81 ∷ 0x00 ∷ []) ≡ None)

-- hardware 1 and 772 carry ether types, the other known kinds name nothing (LINKTYPE_LINUX_SLL)
abbrev pub NamesByHardware : Type 0
NamesByHardware =
    (named LinuxSll 0 false (cooked 0 1 0x08 0x00) ≡ Some Ip)
    × (named LinuxSll 0 false (cooked 3 4 0x08 0x06) ≡ Some Arp)
    × (named LinuxSll 0 false (cooked 3 4 0x81 0x00) ≡ Some Vlan)
    × (map (λ low. named LinuxSll 0 false (cooked 3 low 0x08 0x00)) (2 ∷ 10 ∷ 35 ∷ 55 ∷ 56 ∷ [])
    ≡ None ∷ None ∷ None ∷ None ∷ None ∷ [])

-- the numbers of extension headers right behind the IPv6 header, and behind another one (RFC 8200, sections 4
-- and 4.1; IANA)
abbrev pub NamesByNextHeader : Type 0
NamesByNextHeader =
    (map (λ next. named Ip 0 false (ipv6 next)) (0 ∷ 43 ∷ 44 ∷ 51 ∷ 60 ∷ 50 ∷ 59 ∷ 135 ∷ [])
    ≡ Some HopByHop ∷ Some Route ∷ Some Fragment ∷ Some Ipv6Auth ∷ Some DestinationOptions ∷ None ∷ None
    ∷ None ∷ [])
    × (map (λ next. named DestinationOptions 0 false (options next)) (0 ∷ 43 ∷ 44 ∷ 51 ∷ 60 ∷ 50 ∷ 59 ∷ [])
    ≡ Some LateHopByHop ∷ Some Route ∷ Some Fragment ∷ Some Ipv6Auth ∷ Some DestinationOptions ∷ None ∷ None
    ∷ [])

-- the numbers of transport headers behind headers of both versions (IANA, "Assigned Internet Protocol
-- Numbers")
abbrev pub NamesTransport : Type 0
NamesTransport =
    (map (λ protocol. named Ip 0 false (ipv4 0x40 0 protocol)) (1 ∷ 6 ∷ 17 ∷ 58 ∷ 0 ∷ 2 ∷ 4 ∷ 41 ∷ [])
    ≡ Some Icmpv4 ∷ Some Tcp ∷ Some Udp ∷ Some Icmpv6 ∷ None ∷ None ∷ None ∷ None ∷ [])
    × (map (λ next. named Ip 0 false (ipv6 next)) (1 ∷ 6 ∷ 17 ∷ 58 ∷ [])
    ≡ Some Icmpv4 ∷ Some Tcp ∷ Some Udp ∷ Some Icmpv6 ∷ [])
    × (named Route 0 false (options 6) ≡ Some Tcp) × (named Ipv6Auth 0 false (options 17) ≡ Some Udp)

-- behind an IPv4 header there is one authentication header at most, and no other extension header (RFC 4302,
-- section 3.1)
abbrev pub NamesBehindIpv4 : Type 0
NamesBehindIpv4 =
    (map (λ protocol. named Ip 0 false (ipv4 0 0 protocol)) (51 ∷ 43 ∷ 44 ∷ 60 ∷ [])
    ≡ Some Ipv4Auth ∷ None ∷ None ∷ None ∷ [])
    × (map (λ next. named Ipv4Auth 0 false (options next)) (51 ∷ 60 ∷ 17 ∷ []) ≡ None ∷ None ∷ Some Udp ∷ [])

-- a fragment carries no transport header, but its extension headers go on (RFC 791, section 3.1; RFC 8200,
-- section 4.5)
abbrev pub NamesInFragment : Type 0
NamesInFragment =
    (named Ip 0 false (ipv4 0x20 0 17) ≡ None) × (named Ip 0 false (ipv4 0 1 17) ≡ None)
    × (named Ip 0 false (ipv4 0x1f 0xff 6) ≡ None)
    × (named Ip 0 false (ipv4 0x80 0 17) ≡ Some Udp) × (named Ip 0 false (ipv4 0x20 0 51) ≡ Some Ipv4Auth)
    × (named Ipv4Auth 0 true (options 17) ≡ None)
    × (named Fragment 0 false (fragment 17 0 1) ≡ None) × (named Fragment 0 false (fragment 17 0 8) ≡ None)
    × (named Fragment 0 false (fragment 17 0 6) ≡ Some Udp)
    × (named Fragment 0 false (fragment 60 0 1) ≡ Some DestinationOptions)
    × (named DestinationOptions 0 true (options 17) ≡ None) × (named Fragment 0 true (fragment 17 0 0) ≡ None)

-- nothing is named behind ARP and behind the transport headers
abbrev pub EndsThere : Type 0
EndsThere =
    map (λ kind. named kind 0 false (ethernet 0x08 0x00)) (Arp ∷ Udp ∷ Tcp ∷ Icmpv4 ∷ Icmpv6 ∷ [])
    ≡ None ∷ None ∷ None ∷ None ∷ None ∷ []
