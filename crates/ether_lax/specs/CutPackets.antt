-- What the first bytes of a frame leave of its packet.
use Rattle.std.specs.Prelude.{◌≡◌, ◌↔◌, ℕ, ◌-◌, ◌<◌, ◌≤◌, List, [], ◌∷◌, length, take, slice_range, Option, Some, None}
use Rattle.ether_link.specs.Form.{header_len}
use Rattle.ether_link.specs.Layout.{IsLayoutFrom}
use Rattle.ether_link.specs.declared.layout.PartKind.TheVariants.{Ethernet2}
use Rattle.ether_link.specs.declared.layout.Place.{Place}
use Rattle.ether_link.specs.declared.layout.Stop.{Stop}
use Rattle.ether_ip.specs.PacketGrammar.{packet_grammar}
use Rattle.ether_ip.specs.Tcp.{tcp_slice_form}
use Rattle.ether_ip.specs.declared.err.packet.SliceError.{SliceError}
use Rattle.ether_ip.specs.declared.transport.TransportSlice.{TransportSlice}
use Rattle.ether_ip.specs.declared.transport.TransportSlice.TheVariants.{Udp, Tcp, Icmpv4, Icmpv6}
use Rattle.ether_lax.specs.Found.{parts_of}
use Rattle.ether_lax.specs.LinkExts.{LinkExtPart, TagPart, SecuredPart, ModifiedPart}
use Rattle.ether_lax.specs.Nets.{NetPart, Ipv4Part, Ipv6Part, ArpPart}
use Rattle.ether_lax.specs.Parts.{window_at}
use Rattle.ether_lax.specs.Sliced.{SlicedParts}
use Rattle.ether_lax.specs.Steps.{begins_with}
use Rattle.ether_lax.specs.declared.found.FoundIp.{FoundIp}

-- bytes are the first of others
abbrev pub IsFront : List ℕ → List ℕ → Type 0
IsFront front bytes = front ≡ take (length front) bytes

-- what is there is that of all bytes
abbrev pub IsKept : Option (List ℕ) → Option (List ℕ) → Type 0
IsKept None header = Unit {0}
IsKept (Some kept) header = header ≡ Some kept

-- a link extension: the same header, and a window that is a front
abbrev pub IsCutExt : LinkExtPart → LinkExtPart → Type 0
IsCutExt (TagPart kept) (TagPart bytes) = (take 4 kept ≡ take 4 bytes) × IsFront kept bytes
IsCutExt (SecuredPart kept_header kept) (SecuredPart header payload) =
    (kept_header ≡ header) × (kept.ether_type ≡ payload.ether_type) × IsFront kept.bytes payload.bytes
IsCutExt (ModifiedPart kept_header lacks kept) (ModifiedPart header incomplete bytes) =
    (kept_header ≡ header) × IsFront kept bytes
IsCutExt kept ext = ⊥

-- the link extensions of the first bytes are a front of those of all
abbrev pub AreCutExts : List LinkExtPart → List LinkExtPart → Type 0
AreCutExts [] exts = Unit {0}
AreCutExts (kept ∷ more) [] = ⊥
AreCutExts (kept ∷ more) (ext ∷ exts) = IsCutExt kept ext × AreCutExts more exts

-- the last of the headers of an IP packet, behind which its payload lies
abbrev pub last_header : Option FoundIp → Option Place
last_header None = None
last_header (Some ip) = Some ip.last

-- the IP payload in the first n bytes and in all: it begins behind the last header in each, so earlier
-- exactly where the first n bytes end before the last header of all does; and else it is a front
pub record IsCutPayload (frame : List ℕ) (n : ℕ) (at last : Option Place) (kept payload : List ℕ)
    : Type 0 where
  pub kept_place : Place
  pub place : Place
  pub at_is : at ≡ Some kept_place
  pub last_is : last ≡ Some place
  pub payload_is : payload ≡ window_at frame place
  pub kept_is : kept ≡ take (n - kept_place.body) (slice_range frame kept_place.body place.end)
  pub no_later : kept_place.body ≤ place.body
  pub earlier : (kept_place.body < place.body) ↔ (n < place.body)
  pub together : place.body ≤ n → kept ≡ take (n - place.body) payload

-- the part of the network layer: the same headers, as far as they are there, and the payload
abbrev pub IsCutNet : List ℕ → ℕ → Option Place → Option Place → Option NetPart → Option NetPart → Type 0
IsCutNet frame n at last None net = Unit {0}
IsCutNet frame n at last (Some (Ipv4Part kept_header kept_auth kept)) (Some (Ipv4Part header auth payload)) =
    (kept_header ≡ header) × IsKept kept_auth auth
    × IsCutPayload frame n at last kept.bytes payload.bytes
IsCutNet frame n at last (Some (Ipv6Part kept_header kept_exts kept)) (Some (Ipv6Part header exts payload)) =
    (kept_header ≡ header) × IsFront kept_exts.bytes exts.bytes
    × IsCutPayload frame n at last kept.bytes payload.bytes
IsCutNet frame n at last (Some (ArpPart kept)) (Some (ArpPart packet)) = kept ≡ packet
IsCutNet frame n at last kept net = ⊥

-- the part of the transport layer: the same header of UDP and TCP, and a window that is a front; nothing is
-- said of ICMP
abbrev pub IsCutTransport : Option TransportSlice → Option TransportSlice → Type 0
IsCutTransport None part = Unit {0}
IsCutTransport (Some (Icmpv4 kept)) part = Unit {0}
IsCutTransport (Some (Icmpv6 kept)) part = Unit {0}
IsCutTransport (Some (Udp kept)) (Some (Udp bytes)) = (take 8 kept ≡ take 8 bytes) × IsFront kept bytes
IsCutTransport (Some (Tcp kept)) (Some (Tcp bytes)) =
    (take (header_len tcp_slice_form kept) kept ≡ take (header_len tcp_slice_form bytes) bytes)
    × IsFront kept bytes
IsCutTransport kept part = ⊥

-- the packet of the first n bytes of a frame, and that of all bytes, by the layouts of both
pub record IsCutPacket (frame : List ℕ) (n : ℕ) (kept packet : SlicedParts) : Type 0 where
  pub kept_places : List Place
  pub kept_stop : Option (Stop SliceError)
  pub kept_layout : IsLayoutFrom packet_grammar (take n frame) (begins_with Ethernet2) 0
      (length (take n frame)) kept_places kept_stop
  pub places : List Place
  pub stop : Option (Stop SliceError)
  pub layout : IsLayoutFrom packet_grammar frame (begins_with Ethernet2) 0 (length frame) places stop
  pub exts : AreCutExts kept.exts packet.exts
  pub net : IsCutNet frame n (last_header (parts_of (take n frame) kept_places).ip)
      (last_header (parts_of frame places).ip) kept.net packet.net
  pub transport : IsCutTransport kept.transport packet.transport
