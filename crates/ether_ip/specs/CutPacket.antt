-- What the first bytes of a packet leave of its parts.
use Rattle.std.specs.Prelude.{◌≡◌, ℕ, ◌-◌, ◌≤◌, List, [], ◌∷◌, take, slice_range, Option}
use Rattle.ether_link.specs.Layout.{IsLayoutFrom, HasLayout, HasOneLayout}
use Rattle.ether_link.specs.Places.{header_at}
use Rattle.ether_link.specs.Cut.{proper}
use Rattle.ether_link.specs.declared.layout.Place.{Place}
use Rattle.ether_link.specs.declared.layout.Turn.{Turn}
use Rattle.ether_ip.specs.PacketGrammar.{packet_grammar, is_icmp}

-- some bytes have one layout, from every turn
pub record HasOnePacket (frame : List ℕ) (turn : Option Turn) (start end : ℕ) : Type 0 where
  pub exists : HasLayout packet_grammar frame turn start end
  pub unique : HasOneLayout packet_grammar frame turn start end

-- the bytes behind the header of a part, in its window
abbrev pub window_of : List ℕ → Place → List ℕ
window_of frame place = slice_range frame place.body place.end

-- a part in the first n bytes and in all of them: the same kind and header, and a window that is a front
pub record IsCutPart (frame : List ℕ) (n : ℕ) (kept place : Place) : Type 0 where
  pub kind : kept.kind ≡ place.kind
  pub header : header_at (take n frame) kept ≡ header_at frame place
  pub window : window_of (take n frame) kept ≡ take (n - place.body) (window_of frame place)

-- the parts in the first n bytes are a front of those in all of them
abbrev pub AreCutParts : List ℕ → ℕ → List Place → List Place → Type 0
AreCutParts frame n [] places = Unit {0}
AreCutParts frame n (kept ∷ more) [] = ⊥
AreCutParts frame n (kept ∷ more) (place ∷ places) =
    IsCutPart frame n kept place × AreCutParts frame n more places

-- each header ends where it begins or later
abbrev pub AreOrdered : List Place → Type 0
AreOrdered [] = Unit {0}
AreOrdered (place ∷ more) = (place.start ≤ place.body) × AreOrdered more
