-- Addresses of one host (RFC 1122, section 3.2.1.3).
use Rattle.std.specs.Prelude.{◌&&◌, Bool, not, nat_eq, nat_le, replicate, slice_index}
use Rattle.std.specs.Cmp.Lexicographic.{pointwise}
use Rattle.net_wire.specs.declared.address.Ipv4Address.{Ipv4Address}

-- the address of a group of hosts has a first byte from 224 to 239 (RFC 1112, section 4)
abbrev pub is_multicast : Ipv4Address → Bool
is_multicast address = nat_le 224 (slice_index address.0 0) && nat_le (slice_index address.0 0) 239

-- neither no address nor all hosts of the link, nor those of a group
abbrev pub is_unicast : Ipv4Address → Bool
is_unicast address =
    not (pointwise nat_eq address.0 (replicate 4 0)) && not (pointwise nat_eq address.0 (replicate 4 255))
    && not (is_multicast address)
