-- What a reader needs to know that goes from one part of a packet to the next.
use Rattle.std.specs.Prelude.{◌≡◌, ℕ, ◌+◌, ◌<◌, ◌≤◌, Bool, false, List, slice_range, Option, Some, None}
use Rattle.ether_link.specs.Form.{IsHeader}
use Rattle.ether_link.specs.Layout.{header, place_of}
use Rattle.ether_link.specs.declared.len_source.LenSource.{LenSource}
use Rattle.ether_link.specs.declared.layout.PartKind.{PartKind}
use Rattle.ether_link.specs.declared.layout.PartKind.TheVariants.{Ethernet2, LinuxSll, Vlan, Macsec, Icmpv4, Icmpv6}
use Rattle.ether_link.specs.declared.layout.Place.{Place}
use Rattle.ether_link.specs.declared.layout.Turn.{Turn}
use Rattle.ether_ip.specs.PacketGrammar.{packet_grammar}
use Rattle.ether_lax.specs.Parts.{part_at, source_at, is_incomplete}
use Rattle.ether_lax.specs.declared.step.Part.{Part}

-- the bytes are exactly a header; of ICMP, behind which nothing stands, it need not be known
abbrev pub IsHeaderOf : PartKind → List ℕ → Type 0
IsHeaderOf Icmpv4 bytes = Unit {0}
IsHeaderOf Icmpv6 bytes = Unit {0}
IsHeaderOf kind bytes = IsHeader (packet_grammar.form_of kind) bytes

-- a part of a kind may stand behind so many link extensions
abbrev pub MayStandBehind : PartKind → ℕ → Type 0
MayStandBehind Ethernet2 count = count ≡ 0
MayStandBehind LinuxSll count = count ≡ 0
MayStandBehind Vlan count = count < 3
MayStandBehind Macsec count = count < 3
MayStandBehind kind count = Unit {0}

-- a turn tells how many link extensions there are
abbrev pub TellsCount : ℕ → Option Turn → Type 0
TellsCount count None = Unit {0}
TellsCount count (Some turn) = (turn.link_exts ≡ count) × MayStandBehind turn.kind count

-- the link extensions up to a part
abbrev pub count_behind : PartKind → ℕ → ℕ
count_behind Vlan count = count + 1
count_behind Macsec count = count + 1
count_behind kind count = count

-- a header and then a window, in the bytes from `start` to `end`
pub record IsBetween (start end : ℕ) (place : Place) : Type 0 where
  pub begins : place.start ≡ start
  pub header : start < place.body
  pub window : place.body ≤ place.end
  pub within : place.end ≤ end

-- the part whose turn it is, in the bytes of a frame from `start` to `end`, where it lies, what it says of
-- its window, and what it names
pub record IsStep (frame : List ℕ) (turn : Turn) (start end : ℕ) (place : Place) (part : Part)
    (source : LenSource) (incomplete : Bool) (next : Option Turn) : Type 0 where
  pub place_is : place ≡ place_of packet_grammar turn.kind (slice_range frame start end) start end
  pub part_is : part ≡ part_at frame place
  pub source_is : source ≡ source_at frame place
  pub incomplete_is : incomplete ≡ is_incomplete frame place
  pub next_is : next
      ≡ packet_grammar.next turn (header packet_grammar turn.kind (slice_range frame start end))
  pub between : IsBetween start end place

-- the turn of the part that a frame begins with
abbrev pub begins_with : PartKind → Option Turn
begins_with kind = Some (record { kind = kind; link_exts = 0; fragmented = false })
