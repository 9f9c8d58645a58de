-- Extension headers of IPv6 that give their length in units of eight bytes: hop-by-hop options, routing
-- and destination options (RFC 8200, sections 4.3, 4.4 and 4.6).
use Rattle.std.specs.Prelude.{◌≡◌, ℕ, ◌+◌, ◌*◌, ◌==◌, if◌then◌else◌, List, length, take, drop, slice_index}
use Rattle.ether_link.specs.Form.{Form, never_refused, never_alone}
use Rattle.ether_link.specs.declared.len_source.LenSource.TheVariants.{Slice}
use Rattle.ether_link.specs.declared.err.layers.Layer.{Layer}
use Rattle.ether_link.specs.declared.err.layers.Layer.TheVariants.{Ipv6HopByHopHeader, Ipv6RouteHeader, Ipv6DestOptionsHeader}
use Rattle.ether_link.specs.declared.err.length.LenError.{LenError}
use Rattle.ether_ip.specs.Numbers.{hop_by_hop, ipv6_route}
use Rattle.ether_ip.specs.declared.ip.raw_ext.Ipv6RawExtHeader.{Ipv6RawExtHeader}

-- the layer of a number: 0 is that of hop-by-hop options, 43 that of routing, and 60 that of destination
-- options
abbrev pub raw_ext_layer : ℕ → Layer
raw_ext_layer number =
    if number == hop_by_hop then Ipv6HopByHopHeader
    else (if number == ipv6_route then Ipv6RouteHeader else Ipv6DestOptionsHeader)

-- a header has eight bytes, and as many times eight more as it says
abbrev pub raw_ext_form : {E : Type 0} → Layer → (LenError → E) → Form E
raw_ext_form layer wrong_len = record {
  least = 8;
  layer = layer;
  early = never_refused;
  more = λ head. 8 * slice_index head 1;
  whole = λ head. layer;
  source = Slice;
  late = never_refused;
  alone = never_alone;
  wrong_len = wrong_len;
}

-- the bytes are exactly such a header
abbrev pub IsRawExt : List ℕ → Type 0
IsRawExt bytes = 8 + 8 * slice_index (take 8 bytes) 1 ≡ length bytes

-- its fields
abbrev pub raw_ext_header : List ℕ → Ipv6RawExtHeader
raw_ext_header bytes =
    record { next_header = record { 0 = slice_index bytes 0 }; payload = record { items = drop 2 bytes } }
