-- What a sliced packet holds: the parts of the one layout.
use Rattle.std.specs.Prelude.{◌≡◌, ℕ, ◌==◌, Bool, false, if◌then◌else◌, List, length, map, slice_index, slice_range, Option, Some, None, option_map}
use Rattle.ether_link.specs.Layout.{IsLayoutFrom}
use Rattle.ether_link.specs.declared.err.layers.Layer.{Layer}
use Rattle.ether_link.specs.declared.len_source.LenSource.TheVariants.{Slice}
use Rattle.ether_link.specs.declared.link.LinkSlice.{LinkSlice}
use Rattle.ether_link.specs.declared.link.LinkSlice.TheVariants.{EtherPayload}
use Rattle.ether_link.specs.declared.layout.PartKind.{PartKind}
use Rattle.ether_link.specs.declared.layout.Place.{Place}
use Rattle.ether_link.specs.declared.layout.Stop.{Stop}
use Rattle.ether_link.specs.declared.layout.Turn.{Turn}
use Rattle.ether_link.specs.declared.numbers.EtherType.{EtherType}
use Rattle.ether_ip.specs.PacketGrammar.{packet_grammar}
use Rattle.ether_ip.specs.declared.err.packet.SliceError.{SliceError}
use Rattle.ether_ip.specs.declared.transport.TransportSlice.{TransportSlice}
use Rattle.ether_lax.specs.Found.{Parts, parts_of}
use Rattle.ether_lax.specs.LinkExts.{LinkExtPart, ext_in}
use Rattle.ether_lax.specs.Nets.{NetPart, Ipv4Part, Ipv6Part, ArpPart, IpPayloadPart, ChainPart, net_in}
use Rattle.ether_lax.specs.Parts.{window_at}
use Rattle.ether_lax.specs.Stops.{sliced_stop}
use Rattle.ether_lax.specs.declared.found.FoundIp.{FoundIp}
use Rattle.ether_lax.specs.declared.found.IpHeader.{IpHeader}
use Rattle.ether_lax.specs.declared.found.IpHeader.TheVariants.{V4, V6}
use Rattle.ether_lax.specs.declared.sliced_packet.LaxSlicedPacket.{LaxSlicedPacket}

-- the payload behind the headers of an IP packet, and the extension headers of version 6
abbrev pub payload_at : List ℕ → FoundIp → IpPayloadPart
payload_at frame ip = record {
  incomplete = ip.incomplete;
  number = ip.number;
  fragmented = ip.fragmented;
  source = ip.len_source;
  bytes = window_at frame ip.last;
}

abbrev pub chain_by : List ℕ → Bool → List ℕ → ChainPart
chain_by header fragmented bytes = record {
  first = if length bytes == 0 then None else Some (record { 0 = slice_index header 6 });
  fragmented = fragmented;
  bytes = bytes;
}

abbrev pub chain_at : List ℕ → List ℕ → FoundIp → ChainPart
chain_at frame header ip = chain_by header ip.fragmented (slice_range frame ip.first.body ip.last.body)

-- the IP packet
abbrev pub ip_by : List ℕ → Option (List ℕ) → FoundIp → IpHeader → NetPart
ip_by frame auth ip (V4 header) = Ipv4Part header auth (payload_at frame ip)
ip_by frame auth ip (V6 header) = Ipv6Part header (chain_at frame header ip) (payload_at frame ip)

abbrev pub ip_at : List ℕ → Option (List ℕ) → FoundIp → NetPart
ip_at frame auth ip = ip_by frame auth ip ip.header

-- the part of the network layer
abbrev pub net_by : List ℕ → Option (List ℕ) → Option FoundIp → Option (List ℕ) → Option NetPart
net_by frame auth (Some ip) arp = Some (ip_at frame auth ip)
net_by frame auth None (Some packet) = Some (ArpPart packet)
net_by frame auth None None = None

abbrev pub net_of : List ℕ → Parts → Option NetPart
net_of frame parts = net_by frame parts.held.auth parts.ip parts.arp

-- link extensions, the part of the network layer, that of the transport layer, and what stopped
pub record SlicedParts : Type 0 where
  pub exts : List LinkExtPart
  pub net : Option NetPart
  pub transport : Option TransportSlice
  pub stop : Option (SliceError × Layer)

-- those that a packet holds, and those of a layout
abbrev pub sliced_in : LaxSlicedPacket → SlicedParts
sliced_in packet = record {
  exts = map ext_in packet.link_exts.items;
  net = option_map net_in packet.net;
  transport = packet.transport;
  stop = packet.stop_err;
}

abbrev pub sliced_of : List ℕ → Parts → Option (Stop SliceError) → SlicedParts
sliced_of frame parts stop = record {
  exts = parts.exts;
  net = net_of frame parts;
  transport = parts.transport;
  stop = sliced_stop parts stop;
}

-- the packet holds exactly the parts of the layout of the bytes from a turn on
pub record HoldsLayout (frame : List ℕ) (first : Option Turn) (packet : LaxSlicedPacket) : Type 0 where
  pub places : List Place
  pub stop : Option (Stop SliceError)
  pub layout : IsLayoutFrom packet_grammar frame first 0 (length frame) places stop
  pub holds : sliced_in packet ≡ sliced_of frame (parts_of frame places) stop

-- the link is a payload that was handed in with its ether type
abbrev pub IsPayloadLink : EtherType → List ℕ → Option LinkSlice → Type 0
IsPayloadLink ether_type bytes (Some (EtherPayload payload)) =
    (payload.ether_type ≡ ether_type) × (payload.len_source ≡ Slice) × (payload.payload.now ≡ bytes)
IsPayloadLink ether_type bytes other = ⊥
