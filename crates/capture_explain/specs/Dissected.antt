-- What a row says of the bytes of a frame: all of it is read off the one layout of the frame from Ethernet on.
use Rattle.std.specs.Prelude.{◌≡◌, ℕ, ◌<◌, ◌≤◌, ◌↔◌, IsTrue, Bool, true, false, List, length, drop, Option}
use Rattle.wire_base.specs.Bytes.{be16_at}
use Rattle.ether_link.specs.Layout.{IsLayoutFrom}
use Rattle.ether_link.specs.declared.layout.PartKind.TheVariants.{Ethernet2}
use Rattle.ether_link.specs.declared.layout.Place.{Place}
use Rattle.ether_link.specs.declared.layout.Stop.{Stop}
use Rattle.ether_link.specs.declared.len_source.LenSource.TheVariants.{Slice}
use Rattle.ether_ip.specs.Held.{no_extensions}
use Rattle.ether_ip.specs.PacketGrammar.{packet_grammar}
use Rattle.ether_ip.specs.declared.err.packet.SliceError.{SliceError}
use Rattle.ether_lax.specs.Agreement.{Agree, AreFree, FindsPlaces}
use Rattle.ether_lax.specs.Found.{parts_of}
use Rattle.ether_lax.specs.Headers.{HeaderParts, headers_of}
use Rattle.ether_lax.specs.Notes.{stop_layer}
use Rattle.ether_lax.specs.Payloads.{Carried, OfLink}
use Rattle.ether_lax.specs.Sliced.{SlicedParts, sliced_of, net_of}
use Rattle.ether_lax.specs.Steps.{begins_with}
use Rattle.ether_lax.specs.Walks.{kept_places, kept_stop}
use Rattle.capture_explain.specs.Parts.{parts_at, ah_at, esp_by}
use Rattle.capture_explain.specs.declared.layers.Layers.{Layers}
use Rattle.capture_explain.specs.declared.dissecting.Dissection.{Dissection}

-- the layout of a frame from Ethernet on
abbrev pub IsLayoutOf : List ℕ → List Place → Option (Stop SliceError) → Type 0
IsLayoutOf frame places stop =
    IsLayoutFrom packet_grammar frame (begins_with Ethernet2) 0 (length frame) places stop

-- the parts, the headers of IPsec and the layer that stopped, of a layout
pub record HasLayers (frame : List ℕ) (layers : Layers) : Type 0 where
  pub places : List Place
  pub stop : Option (Stop SliceError)
  pub layout : IsLayoutOf frame places stop
  pub parts_are : layers.parts ≡ parts_at frame places
  pub ah_are : layers.ah ≡ ah_at frame places
  pub stop_is : layers.stop ≡ stop_layer stop
  pub esp_is : layers.esp ≡ esp_by stop (net_of frame (parts_of frame places))
  pub free_are : layers.free ≡ true → AreFree frame no_extensions places stop

-- what the Ethernet header of a frame carries
abbrev pub carried_by_frame : List ℕ → Carried
carried_by_frame frame = OfLink (record {
  incomplete = false;
  ether_type = record { 0 = be16_at frame 12 };
  source = Slice;
  bytes = drop 14 frame;
})

-- what the two dissectors hold of a layout: one all its parts, the other its headers, up to one whose place is
-- taken
abbrev pub sliced_at : List ℕ → List Place → Option (Stop SliceError) → SlicedParts
sliced_at frame places stop = sliced_of frame (parts_of frame places) stop

abbrev pub headers_at : List ℕ → List Place → Option (Stop SliceError) → HeaderParts
headers_at frame places stop = headers_of frame (carried_by_frame frame)
    (parts_of frame (kept_places true frame places))
    (kept_stop true frame places stop)

-- They agree; both refuse a frame of fewer than 14 bytes.
abbrev pub Agrees : List ℕ → List Place → Option (Stop SliceError) → Bool → Type 0
Agrees frame places stop agree =
    (length frame < 14 → agree ≡ true)
    × (14 ≤ length frame → (IsTrue agree ↔ Agree (sliced_at frame places stop) (headers_at frame places stop)))

-- The dissection of a frame: the parts of its layout with their places and the layer that stopped, whether both
-- dissectors agree, its authentication headers, and the encapsulating security payload that its IP packet carries.
-- The dissectors agree where each extension header finds its place free.
pub record IsDissection (frame : List ℕ) (dissection : Dissection) : Type 0 where
  pub places : List Place
  pub stop : Option (Stop SliceError)
  pub layout : IsLayoutOf frame places stop
  pub parts_are : dissection.parts ≡ parts_at frame places
  pub stop_is : dissection.stop ≡ stop_layer stop
  pub agree_is : Agrees frame places stop dissection.agree
  pub agrees : FindsPlaces frame (begins_with Ethernet2) → dissection.agree ≡ true
  pub ah_are : dissection.ah ≡ ah_at frame places
  pub esp_is : dissection.esp ≡ esp_by stop (net_of frame (parts_of frame places))
