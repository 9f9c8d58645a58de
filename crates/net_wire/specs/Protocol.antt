-- The numbers of protocols: ether types (RFC 7042, appendix B) and IP protocol numbers (IANA).
use Rattle.std.specs.Prelude.{◌≡◌, ℕ, ◌==◌, if◌then◌else◌}
use Rattle.net_wire.specs.declared.protocol.EthernetProtocol.{EthernetProtocol}
use Rattle.net_wire.specs.declared.protocol.EthernetProtocol.TheVariants.{Ipv4, Arp, Ipv6, Unknown}
use Rattle.net_wire.specs.declared.protocol.IpProtocol.{IpProtocol}
use Rattle.net_wire.specs.declared.protocol.IpProtocol.TheVariants.{HopByHop, Icmp, Igmp, Tcp, Udp, Ipv6Route, Ipv6Frag, IpSecEsp, IpSecAh, Icmpv6, Ipv6NoNxt, Ipv6Opts}
use Rattle.net_wire.specs.declared.protocol.IpProtocol.TheVariants as protocol

-- the number of an Ethernet frame's payload
abbrev pub ether_type_number : EthernetProtocol → ℕ
ether_type_number Ipv4 = 0x0800
ether_type_number Arp = 0x0806
ether_type_number Ipv6 = 0x86dd
ether_type_number (Unknown number) = number

-- the number of an IP datagram's payload
abbrev pub ip_protocol_number : IpProtocol → ℕ
ip_protocol_number HopByHop = 0
ip_protocol_number Icmp = 1
ip_protocol_number Igmp = 2
ip_protocol_number Tcp = 6
ip_protocol_number Udp = 17
ip_protocol_number Ipv6Route = 43
ip_protocol_number Ipv6Frag = 44
ip_protocol_number IpSecEsp = 50
ip_protocol_number IpSecAh = 51
ip_protocol_number Icmpv6 = 58
ip_protocol_number Ipv6NoNxt = 59
ip_protocol_number Ipv6Opts = 60
ip_protocol_number (protocol.Unknown number) = number

-- the payload of a number: a number that has a name is never unknown
abbrev pub ip_protocol_of : ℕ → IpProtocol
ip_protocol_of number =
    if number == 0 then HopByHop else if number == 1 then Icmp else if number == 2 then Igmp
    else if number == 6 then Tcp
    else if number == 17 then Udp else if number == 43 then Ipv6Route else if number == 44 then Ipv6Frag
    else if number == 50 then IpSecEsp else if number == 51 then IpSecAh else if number == 58 then Icmpv6
    else if number == 59 then Ipv6NoNxt else if number == 60 then Ipv6Opts else protocol.Unknown number

-- a payload that the conversion from its number gives: what has a name is not held as unknown
abbrev pub IsNamed : IpProtocol → Type 0
IsNamed p = ip_protocol_of (ip_protocol_number p) ≡ p

-- each number is that of its payload
abbrev pub IsProtocolOfEachNumber : Type 0
IsProtocolOfEachNumber = (number : ℕ) → ip_protocol_number (ip_protocol_of number) ≡ number
