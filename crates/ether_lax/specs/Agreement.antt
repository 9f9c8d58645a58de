-- When a packet in slices and the headers of a packet as structs agree.
use Rattle.std.specs.Prelude.{◌≡◌, ℕ, false, List, [], ◌∷◌, length, map, Option, Some, None, option_map}
use Rattle.ether_link.specs.Arp.{arp_packet}
use Rattle.ether_link.specs.Layout.{IsLayoutFrom}
use Rattle.ether_link.specs.Places.{header_at}
use Rattle.ether_link.specs.declared.err.layers.Layer.{Layer}
use Rattle.ether_link.specs.declared.len_source.LenSource.TheVariants.{Slice}
use Rattle.ether_link.specs.declared.layout.Place.{Place}
use Rattle.ether_link.specs.declared.layout.Stop.{Stop}
use Rattle.ether_link.specs.declared.layout.Turn.{Turn}
use Rattle.ether_link.specs.declared.numbers.IpNumber.{IpNumber}
use Rattle.ether_ip.specs.Auth.{auth_header}
use Rattle.ether_ip.specs.ExtensionGrammar.{first_extension_kind}
use Rattle.ether_ip.specs.Held.{no_extensions, is_taken, with_header, held_by, extensions_of}
use Rattle.ether_ip.specs.Ipv4.{ipv4_header}
use Rattle.ether_ip.specs.Ipv6.{ipv6_header}
use Rattle.ether_ip.specs.PacketGrammar.{packet_grammar, part_turn}
use Rattle.ether_ip.specs.Transport.{header_of_transport, payload_of_transport}
use Rattle.ether_ip.specs.declared.err.packet.SliceError.{SliceError}
use Rattle.ether_ip.specs.declared.err.packet.SliceError.TheVariants.{Len}
use Rattle.ether_ip.specs.declared.ip.ext_places.ExtensionPlaces.{ExtensionPlaces}
use Rattle.ether_ip.specs.declared.ip.exts.Ipv6Extensions.{Ipv6Extensions}
use Rattle.ether_ip.specs.declared.net_headers.NetHeaders.{NetHeaders}
use Rattle.ether_ip.specs.declared.net_headers.NetHeaders.TheVariants as net
use Rattle.ether_ip.specs.declared.transport.TransportSlice.{TransportSlice}
use Rattle.ether_lax.specs.Headers.{HeaderParts, headers_in}
use Rattle.ether_lax.specs.LinkExts.{header_of_ext}
use Rattle.ether_lax.specs.Nets.{NetPart, Ipv4Part, Ipv6Part, ArpPart, ChainPart, net_in}
use Rattle.ether_lax.specs.Payloads.{Carried, OfIp, bytes_of_carried, carried_in}
use Rattle.ether_lax.specs.Sliced.{SlicedParts, sliced_in}
use Rattle.ether_lax.specs.declared.packet_headers.LaxPacketHeaders.{LaxPacketHeaders}
use Rattle.ether_lax.specs.declared.sliced_packet.LaxSlicedPacket.{LaxSlicedPacket}

-- each extension header of some places finds its own place free, and so does the refused one
abbrev pub AreFree : List ℕ → ExtensionPlaces → List Place → Option (Stop SliceError) → Type 0
AreFree bytes held [] None = Unit {0}
AreFree bytes held [] (Some stop) = is_taken stop.kind held ≡ false
AreFree bytes held (place ∷ more) stop =
    (is_taken place.kind held ≡ false)
    × AreFree bytes (with_header place.kind (header_at bytes place) held) more stop

-- so it is in the layout of the bytes from a turn on
abbrev pub FindsPlaces : List ℕ → Option Turn → Type 0
FindsPlaces frame first = (places : List Place) (stop : Option (Stop SliceError))
    → IsLayoutFrom packet_grammar frame first 0 (length frame) places stop
    → AreFree frame no_extensions places stop

-- the turn of the part that the first number of a chain names
abbrev pub chain_turn : Option IpNumber → Option Turn
chain_turn None = None
chain_turn (Some number) = part_turn 0 false (first_extension_kind number.0) number.0

-- each header of a chain stands in its own place, and no place holds another one
pub record HoldsChain (chain : ChainPart) (exts : Ipv6Extensions) : Type 0 where
  pub places : List Place
  pub stop : Option (Stop SliceError)
  pub layout : IsLayoutFrom packet_grammar chain.bytes (chain_turn chain.first) 0 (length chain.bytes)
      places stop
  pub free : AreFree chain.bytes no_extensions places None
  pub holds : exts ≡ extensions_of (held_by chain.bytes no_extensions places)

-- the headers of the network layer are the same
abbrev pub AgreeNets : Option NetPart → Option NetHeaders → Type 0
AgreeNets None None = Unit {0}
AgreeNets (Some (Ipv4Part bytes auth payload)) (Some (net.Ipv4 header exts)) =
    (ipv4_header bytes ≡ header) × (option_map auth_header auth ≡ exts.auth)
AgreeNets (Some (Ipv6Part bytes chain payload)) (Some (net.Ipv6 header exts)) =
    (ipv6_header bytes ≡ header) × HoldsChain chain exts
AgreeNets (Some (ArpPart bytes)) (Some (net.Arp packet)) = arp_packet bytes ≡ packet
AgreeNets part headers = ⊥

-- a refusal, where it does not matter where its length is from
abbrev pub sourceless : SliceError → SliceError
sourceless (Len error) = Len (record error { len_source = Slice })
sourceless error = error

-- the stops are the same, but for the sources of lengths
abbrev pub AgreeStops : Option (SliceError × Layer) → Option (SliceError × Layer) → Type 0
AgreeStops None None = Unit {0}
AgreeStops (Some stop) (Some other) = (sourceless stop.0 ≡ sourceless other.0) × (stop.1 ≡ other.1)
AgreeStops stop other = ⊥

-- the headers of link extensions, of the network and of the transport layer are the same, and the stops
pub record Agree (parts : SlicedParts) (headers : HeaderParts) : Type 0 where
  pub exts : map header_of_ext parts.exts ≡ headers.exts
  pub net : AgreeNets parts.net headers.net
  pub transport : option_map header_of_transport parts.transport ≡ headers.transport
  pub stop : AgreeStops parts.stop headers.stop

-- the payload of the transport layer is the same bytes, and else that of the IP packet the same payload
abbrev pub CarriesSame : Option TransportSlice → Option NetPart → Carried → Type 0
CarriesSame (Some part) net carried = bytes_of_carried carried ≡ payload_of_transport part
CarriesSame None (Some (Ipv4Part bytes auth payload)) carried = carried ≡ OfIp payload
CarriesSame None (Some (Ipv6Part bytes chain payload)) carried = carried ≡ OfIp payload
CarriesSame None other carried = Unit {0}

-- the two dissections agree
abbrev pub AgreeOn : LaxSlicedPacket → LaxPacketHeaders → Type 0
AgreeOn packet headers =
    Agree (sliced_in packet) (headers_in headers)
    × CarriesSame packet.transport (option_map net_in packet.net) (carried_in headers.payload)
