-- What stopped a dissection, as callers are told: with the place of the refused part and the source of its
-- length.
use Rattle.std.specs.Prelude.{ℕ, Bool, true, false, if◌then◌else◌, Option, Some, None}
use Rattle.ether_link.specs.Places.{layer_of_kind}
use Rattle.ether_link.specs.declared.err.layers.Layer.{Layer}
use Rattle.ether_link.specs.declared.len_source.LenSource.{LenSource}
use Rattle.ether_link.specs.declared.len_source.LenSource.TheVariants.{Slice}
use Rattle.ether_link.specs.declared.layout.PartKind.{PartKind}
use Rattle.ether_link.specs.declared.layout.PartKind.TheVariants as kind
use Rattle.ether_link.specs.declared.layout.Stop.{Stop}
use Rattle.ether_ip.specs.declared.err.packet.SliceError.{SliceError}
use Rattle.ether_ip.specs.declared.err.packet.SliceError.TheVariants.{Len, Ipv4Exts, Ipv6Exts}
use Rattle.ether_ip.specs.declared.err.ipv6_exts.HeaderError as extension
use Rattle.ether_ip.specs.declared.err.ipv6_exts.HeaderSliceError as chain
use Rattle.ether_lax.specs.LinkExts.{is_slice}
use Rattle.ether_lax.specs.Found.{Parts}
use Rattle.ether_lax.specs.declared.found.FoundIp.{FoundIp}

-- a source, or another one where it is the slice
abbrev pub or_source : LenSource → LenSource → LenSource
or_source source other = if is_slice source then other else source

-- the source of the window behind an IP header
abbrev pub source_of_ip : Option FoundIp → LenSource
source_of_ip None = Slice
source_of_ip (Some ip) = ip.len_source

-- the source of the window that a part of a kind was sought in, by those of the link and of the IP header
abbrev pub sliced_source : PartKind → LenSource → LenSource → LenSource
sliced_source kind.Arp link ip = link
sliced_source kind.Ip link ip = link
sliced_source kind.HopByHop link ip = or_source ip link
sliced_source kind.LateHopByHop link ip = or_source ip link
sliced_source kind.Route link ip = or_source ip link
sliced_source kind.Fragment link ip = or_source ip link
sliced_source kind.DestinationOptions link ip = or_source ip link
sliced_source kind.Ipv4Auth link ip = or_source ip link
sliced_source kind.Ipv6Auth link ip = or_source ip link
sliced_source kind.Udp link ip = ip
sliced_source kind.Tcp link ip = ip
sliced_source kind.Icmpv4 link ip = ip
sliced_source kind.Icmpv6 link ip = ip
sliced_source other link ip = Slice

-- a refusal of a part at a place, whose length is from there unless it has a field of its own
abbrev pub placed : LenSource → ℕ → SliceError → SliceError
placed source start (Len error) =
    Len (record error { len_source = or_source error.len_source source; layer_start_offset = start })
placed source start error = error

-- what stopped, and at which layer
abbrev pub told : (PartKind → LenSource) → Option (Stop SliceError) → Option (SliceError × Layer)
told source None = None
told source (Some stop) = Some (placed (source stop.kind) stop.start stop.refusal, layer_of_kind stop.kind)

abbrev pub sliced_stop : Parts → Option (Stop SliceError) → Option (SliceError × Layer)
sliced_stop parts stop = told (λ kind. sliced_source kind parts.link_source (source_of_ip parts.ip)) stop

-- the kinds of the chain of extension headers
abbrev pub is_chain : PartKind → Bool
is_chain kind.HopByHop = true
is_chain kind.LateHopByHop = true
is_chain kind.Route = true
is_chain kind.Fragment = true
is_chain kind.DestinationOptions = true
is_chain kind.Ipv4Auth = true
is_chain kind.Ipv6Auth = true
is_chain other = false

-- the refusal of a part, as one of an extension header, if it can be one
abbrev pub chain_refusal : SliceError → Option chain.HeaderSliceError
chain_refusal (Len error) = Some (chain.TheVariants.Len error)
chain_refusal (Ipv4Exts error) = Some (chain.TheVariants.Content (extension.TheVariants.IpAuth error))
chain_refusal (Ipv6Exts error) = Some (chain.TheVariants.Content error)
chain_refusal other = None

-- what stopped a reader of IP headers, if it was one of them
abbrev pub at_layer : Layer → Option chain.HeaderSliceError → Option (chain.HeaderSliceError × Layer)
at_layer layer None = None
at_layer layer (Some refusal) = Some (refusal, layer)

abbrev pub ip_stop : LenSource → Option (Stop SliceError) → Option (chain.HeaderSliceError × Layer)
ip_stop source None = None
ip_stop source (Some stop) =
    if is_chain stop.kind
    then at_layer (layer_of_kind stop.kind) (chain_refusal (placed source stop.start stop.refusal))
    else None

-- the same, where the length of a link payload is from no field
abbrev pub headers_source : PartKind → LenSource → LenSource
headers_source kind.Ethernet2 ip = Slice
headers_source kind.LinuxSll ip = Slice
headers_source kind.Vlan ip = Slice
headers_source kind.Macsec ip = Slice
headers_source kind.Arp ip = Slice
headers_source kind.Ip ip = Slice
headers_source other ip = ip
