-- The parts of a packet, as values.
use Rattle.std.specs.Prelude.{ℕ, ◌-◌, Bool, if◌then◌else◌, List, [], ◌∷◌, ◌++◌, length, take, slice_range, Option, Some, None, option_map}
use Rattle.ether_link.specs.Form.{header_len}
use Rattle.ether_link.specs.Layout.{header, window_end}
use Rattle.ether_link.specs.Places.{header_at, is_cut_off, source_of_length}
use Rattle.ether_link.specs.declared.len_source.LenSource.{LenSource}
use Rattle.ether_link.specs.declared.len_source.LenSource.TheVariants.{Slice, MacsecShortLength}
use Rattle.ether_link.specs.declared.layout.PartKind.{PartKind}
use Rattle.ether_link.specs.declared.layout.PartKind.TheVariants as kind
use Rattle.ether_link.specs.declared.layout.Place.{Place}
use Rattle.ether_ip.specs.Extensions.{extension_slice}
use Rattle.ether_ip.specs.IpHeaders.{is_ipv4}
use Rattle.ether_ip.specs.IpWindow.{ip_source}
use Rattle.ether_ip.specs.PacketGrammar.{packet_grammar}
use Rattle.ether_ip.specs.declared.transport.TransportSlice.TheVariants as transport
use Rattle.ether_lax.specs.declared.step.Part.{Part}
use Rattle.ether_lax.specs.declared.step.Part.TheVariants.{Ethernet2, LinuxSll, Vlan, Macsec, Arp, Ipv4, Ipv6, Extension, Transport}

-- an IP header, by its version
abbrev pub ip_part : List ℕ → Part
ip_part header = if is_ipv4 header then Ipv4 header else Ipv6 header

-- a part of a kind, by its header and by header and window together
abbrev pub part_in : PartKind → List ℕ → List ℕ → Part
part_in kind.Ethernet2 header whole = Ethernet2 whole
part_in kind.LinuxSll header whole = LinuxSll whole
part_in kind.Vlan header whole = Vlan whole
part_in kind.Macsec header whole = Macsec header
part_in kind.Arp header whole = Arp header
part_in kind.Ip header whole = ip_part header
part_in kind.Udp header whole = Transport (transport.Udp whole)
part_in kind.Tcp header whole = Transport (transport.Tcp whole)
part_in kind.Icmpv4 header whole = Transport (transport.Icmpv4 whole)
part_in kind.Icmpv6 header whole = Transport (transport.Icmpv6 whole)
part_in other header whole = Extension (extension_slice other header)

-- the bytes of a part with its window
abbrev pub whole_at : List ℕ → Place → List ℕ
whole_at frame place = slice_range frame place.start place.end

-- the bytes behind the header of a part, in its window
abbrev pub window_at : List ℕ → Place → List ℕ
window_at frame place = slice_range frame place.body place.end

-- the part at a place
abbrev pub part_at : List ℕ → Place → Part
part_at frame place = part_in place.kind (header_at frame place) (whole_at frame place)

-- the part that some bytes begin with
abbrev pub part_of : PartKind → List ℕ → Part
part_of part bytes = part_in part (header packet_grammar part bytes)
    (take
    (window_end 0 (length bytes) (packet_grammar.announced part (header packet_grammar part bytes)))
    bytes)

-- how many bytes a part has with its window
abbrev pub there : Place → ℕ
there place = place.end - place.start

-- where the end of the window is from, of a header that has so many bytes with its window
abbrev pub source_by : PartKind → List ℕ → ℕ → LenSource
source_by kind.Macsec header bytes =
    source_of_length MacsecShortLength 0 bytes (packet_grammar.announced kind.Macsec header)
source_by kind.Ip header bytes = ip_source header 0 bytes
source_by other header bytes = Slice

abbrev pub source_at : List ℕ → Place → LenSource
source_at frame place = source_by place.kind (header_at frame place) (there place)

-- the header announces more bytes than there are
abbrev pub is_incomplete : List ℕ → Place → Bool
is_incomplete frame place =
    is_cut_off 0 (there place) (packet_grammar.announced place.kind (header_at frame place))
