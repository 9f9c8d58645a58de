-- The layout of a frame: the parts that stand in it one behind another, each where the one before it ends.
use Rattle.std.specs.Prelude.{◌≡◌, ℕ, ◌+◌, ◌<◌, ◌≤◌, min, List, [], ◌∷◌, take, slice_range, Option, Some, None}
use Rattle.ether_link.specs.Form.{Form, header_len, refusal}
use Rattle.ether_link.specs.declared.layout.PartKind.{PartKind}
use Rattle.ether_link.specs.declared.layout.Turn.{Turn}
use Rattle.ether_link.specs.declared.layout.Place.{Place}
use Rattle.ether_link.specs.declared.layout.Stop.{Stop}

-- how the parts of a frame follow one another
pub record Grammar (E : Type 0) : Type 0 where
  -- how a part of a kind is read
  pub form_of : PartKind → Form E
  -- how many bytes its header says that header and payload have, if it says so
  pub announced : PartKind → List ℕ → Option ℕ
  -- the part that a header names, at its turn
  pub next : Turn → List ℕ → Option Turn

-- the header that some bytes begin with
abbrev pub header : {E : Type 0} → Grammar E → PartKind → List ℕ → List ℕ
header grammar kind bytes = take (header_len (grammar.form_of kind) bytes) bytes

-- the end of a part: where its header says, but never past the end of the window before
abbrev pub window_end : ℕ → ℕ → Option ℕ → ℕ
window_end start end None = end
window_end start end (Some said) = min (start + said) end

-- the place of a part that the bytes from `start` to `end` begin with
abbrev pub place_of : {E : Type 0} → Grammar E → PartKind → List ℕ → ℕ → ℕ → Place
place_of grammar kind bytes start end = record {
  kind = kind;
  start = start;
  body = start + header_len (grammar.form_of kind) bytes;
  end = window_end start end (grammar.announced kind (header grammar kind bytes));
}

-- the places are those of the parts from a turn on, in the window from `start` to `end`, up to the first
-- refused one
abbrev pub IsLayoutFrom : {E : Type 0} → Grammar E → List ℕ → Option Turn → ℕ → ℕ → List Place
    → Option (Stop E) → Type 0
IsLayoutFrom grammar frame None start end [] stop = stop ≡ None
IsLayoutFrom grammar frame None start end (place ∷ more) stop = ⊥
IsLayoutFrom {E} grammar frame (Some turn) start end [] stop =
    (why : E) × (refusal (grammar.form_of turn.kind) (slice_range frame start end) ≡ Some why)
    × (stop ≡ Some (record { kind = turn.kind; start = start; refusal = why }))
IsLayoutFrom grammar frame (Some turn) start end (place ∷ more) stop =
    (refusal (grammar.form_of turn.kind) (slice_range frame start end) ≡ None)
    × (place ≡ place_of grammar turn.kind (slice_range frame start end) start end)
    × IsLayoutFrom grammar frame (grammar.next turn (header grammar turn.kind (slice_range frame start end)))
    place.body place.end more stop

-- an accepted header has bytes, and what it announces has room for it
pub record IsOrderly {E : Type 0} (grammar : Grammar E) : Type 0 where
  pub positive : (kind : PartKind) (bytes : List ℕ) → refusal (grammar.form_of kind) bytes ≡ None
      → 0 < header_len (grammar.form_of kind) bytes
  pub covers : (kind : PartKind) (bytes : List ℕ) (said : ℕ) → refusal (grammar.form_of kind) bytes ≡ None
      → grammar.announced kind (header grammar kind bytes) ≡ Some said
      → header_len (grammar.form_of kind) bytes ≤ said

-- there is a layout
abbrev pub HasLayout : {E : Type 0} → Grammar E → List ℕ → Option Turn → ℕ → ℕ → Type 0
HasLayout {E} grammar frame turn start end =
    (places : List Place) × (stop : Option (Stop E)) × IsLayoutFrom grammar frame turn start end places stop

-- two layouts are one
abbrev pub HasOneLayout : {E : Type 0} → Grammar E → List ℕ → Option Turn → ℕ → ℕ → Type 0
HasOneLayout {E} grammar frame turn start end =
    (places others : List Place) (stop last : Option (Stop E))
    → IsLayoutFrom grammar frame turn start end places stop
    → IsLayoutFrom grammar frame turn start end others last
    → (places ≡ others) × (stop ≡ last)

-- each place lies in the window of the one before, a header and then a window
abbrev pub AreNested : ℕ → ℕ → List Place → Type 0
AreNested start end [] = Unit {0}
AreNested start end (place ∷ more) =
    (place.start ≡ start) × (start < place.body) × (place.body ≤ place.end) × (place.end ≤ end)
    × AreNested place.body place.end more

-- a place counted from some bytes before
abbrev pub moved_place : ℕ → Place → Place
moved_place by place = record place { start = by + place.start; body = by + place.body; end = by + place.end }

abbrev pub moved_places : ℕ → List Place → List Place
moved_places by [] = []
moved_places by (place ∷ more) = moved_place by place ∷ moved_places by more

abbrev pub moved_stop : {E : Type 0} → ℕ → Option (Stop E) → Option (Stop E)
moved_stop by None = None
moved_stop by (Some stop) = Some (record stop { start = by + stop.start })
