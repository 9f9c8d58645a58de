-- The note of a frame, read off its layout.
use Rattle.std.specs.Prelude.{◌≡◌, ℕ, Bool, false, List, length, Option, Some, None, option_map}
use Rattle.ether_link.specs.Layout.{IsLayoutFrom}
use Rattle.ether_link.specs.Places.{layer_of_kind}
use Rattle.ether_link.specs.declared.err.layers.Layer.{Layer}
use Rattle.ether_link.specs.declared.layout.PartKind.{PartKind}
use Rattle.ether_link.specs.declared.layout.PartKind.TheVariants.{Ethernet2, Arp}
use Rattle.ether_link.specs.declared.layout.Place.{Place}
use Rattle.ether_link.specs.declared.layout.Stop.{Stop}
use Rattle.ether_ip.specs.PacketGrammar.{packet_grammar}
use Rattle.ether_ip.specs.declared.err.packet.SliceError.{SliceError}
use Rattle.ether_ip.specs.declared.transport.TransportSlice.{TransportSlice}
use Rattle.ether_ip.specs.declared.transport.TransportSlice.TheVariants as part
use Rattle.ether_lax.specs.Found.{Parts, parts_of}
use Rattle.ether_lax.specs.Steps.{begins_with}
use Rattle.ether_lax.specs.declared.found.FoundIp.{FoundIp}
use Rattle.ether_lax.specs.declared.found.IpHeader.{IpHeader}
use Rattle.ether_lax.specs.declared.found.IpHeader.TheVariants.{V4, V6}
use Rattle.ether_lax.specs.declared.note.FrameNote.{FrameNote}
use Rattle.ether_lax.specs.declared.note.NetKind.{NetKind}
use Rattle.ether_lax.specs.declared.note.NetKind.TheVariants as net
use Rattle.ether_lax.specs.declared.note.TransportKind.{TransportKind}
use Rattle.ether_lax.specs.declared.note.TransportKind.TheVariants as transport

-- what the network layer is
abbrev pub version_kind : IpHeader → NetKind
version_kind (V4 header) = net.Ipv4
version_kind (V6 header) = net.Ipv6

abbrev pub net_kind : Option FoundIp → Option (List ℕ) → NetKind
net_kind (Some ip) arp = version_kind ip.header
net_kind None (Some packet) = net.Arp
net_kind None None = net.None

-- what the transport layer is
abbrev pub transport_kind : Option TransportSlice → TransportKind
transport_kind (Some (part.Icmpv4 bytes)) = transport.Icmpv4
transport_kind (Some (part.Udp bytes)) = transport.Udp
transport_kind (Some (part.Tcp bytes)) = transport.Tcp
transport_kind (Some (part.Icmpv6 bytes)) = transport.Icmpv6
transport_kind None = transport.None

-- the window of a part: the bytes behind its header, or the whole ARP packet
abbrev pub window_from : PartKind → Place → ℕ
window_from Arp place = place.start
window_from kind place = place.body

-- the window of the last part, or all bytes where there is none
abbrev pub window_by : ℕ → Option Place → ℕ × ℕ
window_by len None = (0, len)
window_by len (Some place) = (window_from place.kind place, place.end)

-- bytes are missing; the packet carries a fragment
abbrev pub is_incomplete_note : Option FoundIp → Bool → Bool
is_incomplete_note None link_incomplete = link_incomplete
is_incomplete_note (Some ip) link_incomplete = ip.incomplete

abbrev pub is_fragment_note : Option FoundIp → Bool
is_fragment_note None = false
is_fragment_note (Some ip) = ip.fragmented

-- the layer at which a dissection stopped
abbrev pub stop_layer : Option (Stop SliceError) → Option Layer
stop_layer None = None
stop_layer (Some stop) = Some (layer_of_kind stop.kind)

-- the note of some parts
abbrev pub note_by : ℕ → Parts → Option (Stop SliceError) → FrameNote
note_by len parts stop = record {
  exts = length parts.exts;
  net = net_kind parts.ip parts.arp;
  transport = transport_kind parts.transport;
  start = (window_by len parts.last).0;
  end = (window_by len parts.last).1;
  incomplete = is_incomplete_note parts.ip parts.link_incomplete;
  fragmented = is_fragment_note parts.ip;
  stop = stop_layer stop;
}

-- the note of a frame's layout
abbrev pub note_of_layout : List ℕ → List Place → Option (Stop SliceError) → FrameNote
note_of_layout frame places stop = note_by (length frame) (parts_of frame places) stop

-- the note of the one layout of a frame
pub record IsNoteOf (frame : List ℕ) (note : FrameNote) : Type 0 where
  pub places : List Place
  pub stop : Option (Stop SliceError)
  pub layout : IsLayoutFrom packet_grammar frame (begins_with Ethernet2) 0 (length frame) places stop
  pub is : note ≡ note_of_layout frame places stop
