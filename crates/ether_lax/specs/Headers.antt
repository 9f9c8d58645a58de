-- What the headers of a packet as structs hold: the parts of the one layout, up to an extension header whose
-- place is taken.
use Rattle.std.specs.Prelude.{◌≡◌, ℕ, Bool, true, false, List, length, map, Option, Some, None, option_map}
use Rattle.ether_link.specs.Arp.{arp_packet}
use Rattle.ether_link.specs.Layout.{IsLayoutFrom}
use Rattle.ether_link.specs.declared.err.layers.Layer.{Layer}
use Rattle.ether_link.specs.declared.len_source.LenSource.{LenSource}
use Rattle.ether_link.specs.declared.len_source.LenSource.TheVariants.{Slice}
use Rattle.ether_link.specs.declared.link.LinkExtHeader.{LinkExtHeader}
use Rattle.ether_link.specs.LinuxSll.{linux_sll_header}
use Rattle.ether_link.specs.declared.link.LinkHeader.TheVariants as link
use Rattle.ether_link.specs.declared.link.linux_sll.LinuxSllHeader.{LinuxSllHeader}
use Rattle.ether_link.specs.declared.layout.PartKind.{PartKind}
use Rattle.ether_link.specs.declared.layout.PartKind.TheVariants.{LinuxSll}
use Rattle.ether_link.specs.declared.layout.Place.{Place}
use Rattle.ether_link.specs.declared.layout.Stop.{Stop}
use Rattle.ether_link.specs.declared.layout.Turn.{Turn}
use Rattle.ether_ip.specs.Auth.{auth_header}
use Rattle.ether_ip.specs.Held.{extensions_of}
use Rattle.ether_ip.specs.Ipv4.{ipv4_header}
use Rattle.ether_ip.specs.Ipv6.{ipv6_header}
use Rattle.ether_ip.specs.PacketGrammar.{packet_grammar}
use Rattle.ether_ip.specs.Transport.{header_of_transport}
use Rattle.ether_ip.specs.declared.err.packet.SliceError.{SliceError}
use Rattle.ether_ip.specs.declared.ip.ext_places.ExtensionPlaces.{ExtensionPlaces}
use Rattle.ether_ip.specs.declared.net_headers.NetHeaders.{NetHeaders}
use Rattle.ether_ip.specs.declared.net_headers.NetHeaders.TheVariants as net
use Rattle.ether_ip.specs.declared.transport.TransportHeader.{TransportHeader}
use Rattle.ether_ip.specs.declared.transport.TransportSlice.{TransportSlice}
use Rattle.ether_lax.specs.Found.{Parts, parts_of}
use Rattle.ether_lax.specs.LinkExts.{header_of_ext}
use Rattle.ether_lax.specs.Payloads.{Carried, OfIp, carried_in, carried_in_transport, carried_by_cooked}
use Rattle.ether_lax.specs.Sliced.{payload_at}
use Rattle.ether_lax.specs.Steps.{begins_with}
use Rattle.ether_lax.specs.Stops.{source_of_ip, headers_source, told}
use Rattle.ether_lax.specs.Walks.{kept_places, kept_stop}
use Rattle.ether_lax.specs.declared.found.FoundIp.{FoundIp}
use Rattle.ether_lax.specs.declared.found.IpHeader.{IpHeader}
use Rattle.ether_lax.specs.declared.found.IpHeader.TheVariants.{V4, V6}
use Rattle.ether_lax.specs.declared.packet_headers.LaxPacketHeaders.{LaxPacketHeaders}

-- the headers of the network layer
abbrev pub ip_headers : ExtensionPlaces → IpHeader → NetHeaders
ip_headers held (V4 header) =
    net.Ipv4 (ipv4_header header) (record { auth = option_map auth_header held.auth })
ip_headers held (V6 header) = net.Ipv6 (ipv6_header header) (extensions_of held)

abbrev pub net_headers : ExtensionPlaces → Option FoundIp → Option (List ℕ) → Option NetHeaders
net_headers held (Some ip) arp = Some (ip_headers held ip.header)
net_headers held None (Some packet) = Some (net.Arp (arp_packet packet))
net_headers held None None = None

-- bytes of the IP packet are missing
abbrev pub lacks_bytes : Option FoundIp → Bool
lacks_bytes None = false
lacks_bytes (Some ip) = ip.incomplete

-- what is behind the last header: of the transport layer, of the IP packet, or of the link
abbrev pub carried_by_link : Carried → Option Carried → Carried
carried_by_link start None = start
carried_by_link start (Some carried) = carried

abbrev pub carried_of : List ℕ → Carried → Option TransportSlice → Option FoundIp → Option Carried → Carried
carried_of frame start (Some transport) ip link = carried_in_transport transport (lacks_bytes ip)
carried_of frame start None (Some ip) link = OfIp (payload_at frame ip)
carried_of frame start None None link = carried_by_link start link

-- the fields of link extensions, of the network and of the transport layer, the payload, and what stopped
pub record HeaderParts : Type 0 where
  pub exts : List LinkExtHeader
  pub net : Option NetHeaders
  pub transport : Option TransportHeader
  pub payload : Carried
  pub stop : Option (SliceError × Layer)

-- those that a packet holds, and those of a layout, behind a link that carries something
abbrev pub headers_in : LaxPacketHeaders → HeaderParts
headers_in packet = record {
  exts = packet.link_exts.items;
  net = packet.net;
  transport = packet.transport;
  payload = carried_in packet.payload;
  stop = packet.stop_err;
}

abbrev pub headers_stop : Option FoundIp → Option (Stop SliceError) → Option (SliceError × Layer)
headers_stop ip stop = told (λ kind. headers_source kind (source_of_ip ip)) stop

abbrev pub headers_of : List ℕ → Carried → Parts → Option (Stop SliceError) → HeaderParts
headers_of frame start parts stop = record {
  exts = map header_of_ext parts.exts;
  net = net_headers parts.held parts.ip parts.arp;
  transport = option_map header_of_transport parts.transport;
  payload = carried_of frame start parts.transport parts.ip parts.carried;
  stop = headers_stop parts.ip stop;
}

-- the packet holds the headers of the layout of the bytes from a turn on, up to one whose place is taken
pub record HoldsHeaders (frame : List ℕ) (first : Option Turn) (start : Carried) (packet : LaxPacketHeaders)
    : Type 0 where
  pub places : List Place
  pub stop : Option (Stop SliceError)
  pub layout : IsLayoutFrom packet_grammar frame first 0 (length frame) places stop
  pub holds : headers_in packet
      ≡ headers_of frame start (parts_of frame (kept_places true frame places))
      (kept_stop true frame places stop)

-- the packet holds the header of a cooked packet and those behind it
pub record HoldsCooked (bytes : List ℕ) (packet : LaxPacketHeaders) : Type 0 where
  pub header : LinuxSllHeader
  pub header_is : Some header ≡ linux_sll_header bytes
  pub link : packet.link ≡ Some (link.LinuxSll header)
  pub layout : HoldsHeaders bytes (begins_with LinuxSll) (carried_by_cooked header.protocol_type bytes) packet
