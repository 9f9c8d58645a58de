-- The texts of addresses.
use Rattle.std.specs.Prelude.{ℕ, List, [], ◌∷◌, ◌++◌, map}
use Rattle.std.specs.Fmt.{decimal}
use Rattle.std.specs.List.{join_with_byte}
use Rattle.net_wire.specs.Pretty.{hex_pair}
use Rattle.net_wire.specs.declared.address.IpAddress.{IpAddress}
use Rattle.net_wire.specs.declared.address.IpAddress.TheVariants.{Ipv4, Ipv6}
use Rattle.net_wire.specs.declared.address.Ipv4Address.{Ipv4Address}
use Rattle.net_wire.specs.declared.address.Ipv6Address.{Ipv6Address}

-- the four numbers of an address, with points between them (RFC 1123, section 2.1)
abbrev pub address_text : Ipv4Address → List ℕ
address_text address = join_with_byte 46 (map decimal address.0)

-- bytes by twos, each two as four hexadecimal digits in lower case
abbrev pub groups_of : List ℕ → List (List ℕ)
groups_of [] = []
groups_of (high ∷ []) = hex_pair high ∷ []
groups_of (high ∷ low ∷ bytes) = (hex_pair high ++ hex_pair low) ∷ groups_of bytes

-- the eight groups of an address, with colons between them (RFC 4291, section 2.2, form 1)
abbrev pub ipv6_text : Ipv6Address → List ℕ
ipv6_text address = join_with_byte 58 (groups_of address.0)

abbrev pub ip_text : IpAddress → List ℕ
ip_text (Ipv4 address) = address_text address
ip_text (Ipv6 address) = ipv6_text address
