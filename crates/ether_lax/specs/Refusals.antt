-- The refusals of parts of a packet.
use Rattle.ether_link.specs.declared.layout.PartKind.{PartKind}
use Rattle.ether_link.specs.declared.layout.PartKind.TheVariants.{HopByHop, LateHopByHop, Route, Fragment, DestinationOptions, Ipv4Auth, Ipv6Auth}
use Rattle.ether_ip.specs.declared.err.ipv6_exts.HeaderError as extension
use Rattle.ether_ip.specs.declared.err.ipv6_exts.HeaderSliceError as chain
use Rattle.ether_ip.specs.declared.err.packet.SliceError.{SliceError}
use Rattle.ether_ip.specs.declared.err.packet.SliceError.TheVariants.{Len, Ipv4Exts, Ipv6Exts}

-- a kind of the chain of extension headers
abbrev pub IsChainKind : PartKind → Type 0
IsChainKind HopByHop = Unit {0}
IsChainKind LateHopByHop = Unit {0}
IsChainKind Route = Unit {0}
IsChainKind Fragment = Unit {0}
IsChainKind DestinationOptions = Unit {0}
IsChainKind Ipv4Auth = Unit {0}
IsChainKind Ipv6Auth = Unit {0}
IsChainKind kind = ⊥

-- the refusal of an extension header, as one of a part of a packet
abbrev pub refusal_of : PartKind → chain.HeaderSliceError → SliceError
refusal_of kind (chain.TheVariants.Len error) = Len error
refusal_of Ipv4Auth (chain.TheVariants.Content (extension.TheVariants.IpAuth error)) = Ipv4Exts error
refusal_of kind (chain.TheVariants.Content error) = Ipv6Exts error
