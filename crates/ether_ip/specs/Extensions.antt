-- Extension headers of IP packets.
use Rattle.std.specs.Prelude.{ℕ, Bool, ◌||◌, List, Option, Some, None, option_map}
use Rattle.ether_link.specs.declared.layout.PartKind.{PartKind}
use Rattle.ether_link.specs.declared.layout.PartKind.TheVariants as kind
use Rattle.ether_ip.specs.Auth.{auth_header}
use Rattle.ether_ip.specs.Fragment.{is_ipv6_fragment}
use Rattle.ether_ip.specs.declared.ip.exts.Ipv4Extensions.{Ipv4Extensions}
use Rattle.ether_ip.specs.declared.ip.exts.Ipv4ExtensionsSlice.{Ipv4ExtensionsSlice}
use Rattle.ether_ip.specs.declared.ip.exts.Ipv6ExtensionSlice.{Ipv6ExtensionSlice}
use Rattle.ether_ip.specs.declared.ip.exts.Ipv6ExtensionSlice.TheVariants.{HopByHop, Routing, Fragment, DestinationOptions, Authentication}

-- the fields of those behind an IPv4 header
abbrev pub ipv4_extensions : Ipv4ExtensionsSlice → Ipv4Extensions
ipv4_extensions slices = record { auth = option_map auth_header slices.auth }

-- the bytes of one behind an IPv6 header
abbrev pub bytes_of_extension : Ipv6ExtensionSlice → List ℕ
bytes_of_extension (HopByHop bytes) = bytes
bytes_of_extension (Routing bytes) = bytes
bytes_of_extension (Fragment bytes) = bytes
bytes_of_extension (DestinationOptions bytes) = bytes
bytes_of_extension (Authentication bytes) = bytes

-- the extension header of a kind that has some bytes
abbrev pub extension_slice : PartKind → List ℕ → Ipv6ExtensionSlice
extension_slice kind.Route bytes = Routing bytes
extension_slice kind.Fragment bytes = Fragment bytes
extension_slice kind.DestinationOptions bytes = DestinationOptions bytes
extension_slice kind.Ipv4Auth bytes = Authentication bytes
extension_slice kind.Ipv6Auth bytes = Authentication bytes
extension_slice other bytes = HopByHop bytes

-- what the packet carries is a fragment, as far as a header says and those before it
abbrev pub fragmented_by : Bool → Ipv6ExtensionSlice → Bool
fragmented_by before (Fragment bytes) = before || is_ipv6_fragment bytes
fragmented_by before other = before
