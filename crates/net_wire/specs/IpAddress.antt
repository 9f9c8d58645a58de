-- Addresses of either version of IP.
use Rattle.std.specs.Prelude.{Bool, replicate, nat_eq}
use Rattle.std.specs.Cmp.Lexicographic.{pointwise}
use Rattle.net_wire.specs.declared.address.IpAddress.{IpAddress}
use Rattle.net_wire.specs.declared.address.IpAddress.TheVariants as ip

-- all bits are zero (RFC 1122, section 3.2.1.3; RFC 4291, section 2.5.2)
abbrev pub is_unspecified : IpAddress → Bool
is_unspecified (ip.Ipv4 address) = pointwise nat_eq address.0 (replicate 4 0)
is_unspecified (ip.Ipv6 address) = pointwise nat_eq address.0 (replicate 16 0)
