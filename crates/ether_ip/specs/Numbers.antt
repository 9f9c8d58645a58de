-- The numbers of what an IP packet carries (IANA, "Assigned Internet Protocol Numbers").
use Rattle.std.specs.Prelude.{ℕ}

-- extension headers of IPv6 (RFC 8200, sections 4.3 to 4.6; RFC 4302)
abbrev pub hop_by_hop : ℕ
hop_by_hop = 0

abbrev pub ipv6_route : ℕ
ipv6_route = 43

abbrev pub ipv6_fragment : ℕ
ipv6_fragment = 44

abbrev pub authentication : ℕ
authentication = 51

abbrev pub destination_options : ℕ
destination_options = 60

-- transport headers (RFC 792, RFC 9293, RFC 768, RFC 4443)
abbrev pub icmp : ℕ
icmp = 1

abbrev pub tcp : ℕ
tcp = 6

abbrev pub udp : ℕ
udp = 17

abbrev pub icmpv6 : ℕ
icmpv6 = 58
