-- What is read off the places of a layout.
use Rattle.std.specs.Prelude.{ℕ, ◌+◌, nat_lt, Bool, false, if◌then◌else◌, List, [], ◌∷◌, slice_range, Option, Some, None}
use Rattle.ether_link.specs.declared.len_source.LenSource.{LenSource}
use Rattle.ether_link.specs.declared.len_source.LenSource.TheVariants.{Slice}
use Rattle.ether_link.specs.declared.err.layers.Layer.{Layer}
use Rattle.ether_link.specs.declared.err.layers.Layer.TheVariants as layer
use Rattle.ether_link.specs.declared.layout.PartKind.{PartKind}
use Rattle.ether_link.specs.declared.layout.PartKind.TheVariants.{Ethernet2, LinuxSll, Vlan, Macsec, Arp, Ip, HopByHop, LateHopByHop, Route, Fragment, DestinationOptions, Ipv4Auth, Ipv6Auth, Udp, Tcp, Icmpv4, Icmpv6}
use Rattle.ether_link.specs.declared.layout.Place.{Place}

-- the layer that a refused part of a kind is called by
abbrev pub layer_of_kind : PartKind → Layer
layer_of_kind Ethernet2 = layer.Ethernet2Header
layer_of_kind LinuxSll = layer.LinuxSllHeader
layer_of_kind Vlan = layer.VlanHeader
layer_of_kind Macsec = layer.MacsecHeader
layer_of_kind Arp = layer.Arp
layer_of_kind Ip = layer.IpHeader
layer_of_kind HopByHop = layer.Ipv6HopByHopHeader
layer_of_kind LateHopByHop = layer.Ipv6HopByHopHeader
layer_of_kind Route = layer.Ipv6RouteHeader
layer_of_kind Fragment = layer.Ipv6FragHeader
layer_of_kind DestinationOptions = layer.Ipv6DestOptionsHeader
layer_of_kind Ipv4Auth = layer.IpAuthHeader
layer_of_kind Ipv6Auth = layer.IpAuthHeader
layer_of_kind Udp = layer.UdpHeader
layer_of_kind Tcp = layer.TcpHeader
layer_of_kind Icmpv4 = layer.Icmpv4
layer_of_kind Icmpv6 = layer.Icmpv6

-- the header at a place
abbrev pub header_at : List ℕ → Place → List ℕ
header_at frame place = slice_range frame place.start place.body

-- where the last header ends, or where the first would begin
abbrev pub end_of_headers : ℕ → List Place → ℕ
end_of_headers from [] = from
end_of_headers from (place ∷ more) = end_of_headers place.body more

-- a part announces more bytes than its window has
abbrev pub is_cut_off : ℕ → ℕ → Option ℕ → Bool
is_cut_off start end None = false
is_cut_off start end (Some said) = nat_lt end (start + said)

-- the field is where a length is from that fits in the bytes from `start` to `end`
abbrev pub source_of_length : LenSource → ℕ → ℕ → Option ℕ → LenSource
source_of_length field start end None = Slice
source_of_length field start end (Some said) = if nat_lt end (start + said) then Slice else field
