-- What the first bytes of a frame leave of its layout.
use Rattle.std.specs.Prelude.{◌≡◌, ℕ, nat_lt, Bool, true, false, if◌then◌else◌, min, List, [], ◌∷◌, None}
use Rattle.ether_link.specs.Layout.{Grammar}
use Rattle.ether_link.specs.declared.layout.PartKind.{PartKind}
use Rattle.ether_link.specs.declared.layout.Turn.{Turn}
use Rattle.ether_link.specs.declared.layout.Place.{Place}

-- the places whose header lies in the first n bytes, with what those leave of their windows
abbrev pub cut_places : ℕ → List Place → List Place
cut_places n [] = []
cut_places n (place ∷ more) =
    if nat_lt n place.body then [] else (record place { end = min place.end n } ∷ cut_places n more)

-- a kind that takes no note of where the bytes end, or one that ends a layout
pub record IsCuttable {E : Type 0} (grammar : Grammar E) (is_last : PartKind → Bool) : Type 0 where
  pub open_end : (kind : PartKind) (head : List ℕ) → is_last kind ≡ false
      → (grammar.form_of kind).alone head ≡ false
  pub ends : (turn : Turn) (header : List ℕ) → is_last turn.kind ≡ true → grammar.next turn header ≡ None

-- the places of all kinds but those that end a layout
abbrev pub proper : (PartKind → Bool) → List Place → List Place
proper is_last [] = []
proper is_last (place ∷ more) =
    if is_last place.kind then proper is_last more else (place ∷ proper is_last more)
