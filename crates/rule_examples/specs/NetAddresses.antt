-- Which addresses are those of one host, and the numbers of protocols.
use Rattle.std.specs.Prelude.{◌≡◌, ℕ, true, false, [], ◌∷◌, map, replicate}
use Rattle.net_wire.specs.Arrival.{is_group}
use Rattle.net_wire.specs.IpAddress.{is_unspecified}
use Rattle.net_wire.specs.Protocol.{ether_type_number, ip_protocol_number, ip_protocol_of}
use Rattle.net_wire.specs.Unicast.{is_multicast, is_unicast}
use Rattle.net_wire.specs.declared.address.IpAddress.TheVariants as ip
use Rattle.net_wire.specs.declared.address.Ipv4Address.{Ipv4Address}
use Rattle.net_wire.specs.declared.protocol.EthernetProtocol.TheVariants as ether
use Rattle.net_wire.specs.declared.protocol.IpProtocol.TheVariants.{HopByHop, Icmp, Igmp, Tcp, Udp, Ipv6Route, Ipv6Frag, IpSecEsp, IpSecAh, Icmpv6, Ipv6NoNxt, Ipv6Opts, Unknown}

-- an address by its first and its last three bytes
abbrev pub address : ℕ → ℕ → Ipv4Address
address first others = record { 0 = first ∷ others ∷ others ∷ others ∷ [] }

-- A group's first byte is 224 to 239 (RFC 1112, section 4). Neither no address, nor all hosts of the link, nor a
-- group is one host (RFC 1122, section 3.2.1.3).
pub record UnicastByExample : Type 0 where
  pub groups : map (λ first. is_multicast (address first 7)) (223 ∷ 224 ∷ 239 ∷ 240 ∷ [])
      ≡ false ∷ true ∷ true ∷ false ∷ []
  pub hosts : map (λ first. is_unicast (address first 7)) (0 ∷ 10 ∷ 223 ∷ 224 ∷ 239 ∷ 240 ∷ 255 ∷ [])
      ≡ true ∷ true ∷ true ∷ false ∷ false ∷ true ∷ true ∷ []
  pub no_address : is_unicast (address 0 0) ≡ false
  pub all_hosts : is_unicast (address 255 255) ≡ false
  pub unspecified : map is_unspecified
      (ip.Ipv4 (address 0 0) ∷ ip.Ipv4 (address 0 1) ∷ ip.Ipv6 (record { 0 = replicate 16 0 })
      ∷ ip.Ipv6 (record { 0 = 0 ∷ replicate 15 1 }) ∷ [])
      ≡ true ∷ false ∷ true ∷ false ∷ []

-- the lowest bit of the first byte is that of a group of stations (IEEE 802.3, section 3.2.3)
abbrev pub GroupsByExample : Type 0
GroupsByExample =
    map (λ first. is_group (first ∷ replicate 5 7)) (0 ∷ 1 ∷ 2 ∷ 3 ∷ 128 ∷ 255 ∷ [])
    ≡ false ∷ true ∷ false ∷ true ∷ false ∷ true ∷ []

-- ether types (RFC 7042, appendix B) and IP protocol numbers (IANA)
pub record ProtocolsByExample : Type 0 where
  pub ether_types : map ether_type_number (ether.Ipv4 ∷ ether.Arp ∷ ether.Ipv6 ∷ ether.Unknown 7 ∷ [])
      ≡ 0x0800 ∷ 0x0806 ∷ 0x86DD ∷ 7 ∷ []
  pub transports : map ip_protocol_number (Icmp ∷ Igmp ∷ Tcp ∷ Udp ∷ Icmpv6 ∷ []) ≡ 1 ∷ 2 ∷ 6 ∷ 17 ∷ 58 ∷ []
  pub extensions : map ip_protocol_number
      (HopByHop ∷ Ipv6Route ∷ Ipv6Frag ∷ IpSecEsp ∷ IpSecAh ∷ Ipv6NoNxt ∷ Ipv6Opts ∷ [])
      ≡ 0 ∷ 43 ∷ 44 ∷ 50 ∷ 51 ∷ 59 ∷ 60 ∷ []
  pub of_transports : map ip_protocol_of (1 ∷ 2 ∷ 6 ∷ 17 ∷ 58 ∷ 89 ∷ [])
      ≡ Icmp ∷ Igmp ∷ Tcp ∷ Udp ∷ Icmpv6 ∷ Unknown 89 ∷ []
  pub of_extensions : map ip_protocol_of (0 ∷ 43 ∷ 44 ∷ 50 ∷ 51 ∷ 59 ∷ 60 ∷ [])
      ≡ HopByHop ∷ Ipv6Route ∷ Ipv6Frag ∷ IpSecEsp ∷ IpSecAh ∷ Ipv6NoNxt ∷ Ipv6Opts ∷ []
