-- The walk along the parts of a packet, in two shapes: along all of them, or up to an extension header whose
-- place is taken.
use Rattle.std.specs.Prelude.{◌≡◌, ℕ, ◌<◌, ◌≤◌, Bool, if◌then◌else◌, List, length, Option, Some, None}
use Rattle.ether_link.specs.Layout.{IsLayoutFrom}
use Rattle.ether_link.specs.declared.len_source.LenSource.{LenSource}
use Rattle.ether_link.specs.declared.layout.Place.{Place}
use Rattle.ether_link.specs.declared.layout.Stop.{Stop}
use Rattle.ether_link.specs.declared.layout.Turn.{Turn}
use Rattle.ether_ip.specs.Held.{no_extensions, free_places, free_stop}
use Rattle.ether_ip.specs.PacketGrammar.{packet_grammar}
use Rattle.ether_ip.specs.declared.err.packet.SliceError.{SliceError}
use Rattle.ether_ip.specs.declared.ip.ext_places.ExtensionPlaces.{ExtensionPlaces}
use Rattle.ether_lax.specs.Found.{Parts, parts_of}
use Rattle.ether_lax.specs.Parts.{source_at, is_incomplete}
use Rattle.ether_lax.specs.declared.found.FoundIp.{FoundIp}
use Rattle.ether_lax.specs.declared.step.Part.{Part}
use Rattle.ether_lax.specs.declared.step.Part.TheVariants.{Vlan, Macsec}

-- the places that are read, behind headers that are held
abbrev pub kept_from : Bool → List ℕ → ExtensionPlaces → List Place → List Place
kept_from in_places frame held places = if in_places then free_places frame held places else places

abbrev pub stop_from : Bool → List ℕ → ExtensionPlaces → List Place → Option (Stop SliceError)
    → Option (Stop SliceError)
stop_from in_places frame held places stop = if in_places then free_stop frame held places stop else stop

abbrev pub kept_places : Bool → List ℕ → List Place → List Place
kept_places in_places frame places = kept_from in_places frame no_extensions places

abbrev pub kept_stop : Bool → List ℕ → List Place → Option (Stop SliceError) → Option (Stop SliceError)
kept_stop in_places frame places stop = stop_from in_places frame no_extensions places stop

-- the parts of a frame's layout and its stop
pub record IsWalked (in_places : Bool) (frame : List ℕ) (first : Option Turn) (parts : Parts)
    (stop : Option (Stop SliceError)) : Type 0 where
  pub places : List Place
  pub last : Option (Stop SliceError)
  pub layout : IsLayoutFrom packet_grammar frame first 0 (length frame) places last
  pub parts_are : parts ≡ parts_of frame (kept_places in_places frame places)
  pub stopped : stop ≡ kept_stop in_places frame places last

-- there is room for a part among at most three link extensions
abbrev pub HasRoom : Part → ℕ → Type 0
HasRoom (Vlan bytes) count = count < 3
HasRoom (Macsec bytes) count = count < 3
HasRoom part count = Unit {0}

-- what a part at a place says of its window
pub record IsOf (frame : List ℕ) (place : Place) (source : LenSource) (incomplete : Bool) : Type 0 where
  pub source_is : source ≡ source_at frame place
  pub incomplete_is : incomplete ≡ is_incomplete frame place

-- the headers of an IP packet lie in a frame, up to a place
abbrev pub IsInside : ℕ → ℕ → Option FoundIp → Type 0
IsInside len at None = Unit {0}
IsInside len at (Some ip) =
    (ip.first.body ≤ ip.last.body) × (ip.last.body ≤ at) × (ip.last.body ≤ ip.last.end) × (ip.last.end ≤ len)

-- the last part lies in a frame
abbrev pub LiesIn : ℕ → Option Place → Type 0
LiesIn len None = Unit {0}
LiesIn len (Some place) = (place.start ≤ len) × (place.body ≤ len) × (place.end ≤ len)
