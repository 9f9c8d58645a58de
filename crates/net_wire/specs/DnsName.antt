-- Names in DNS messages (RFC 1035, sections 3.1 and 4.1.4). A name stands in place as labels, closed by a
-- zero byte or by a pointer to where it goes on.
use Rattle.std.specs.Prelude.{◌≡◌, ◌<◌, ℕ, zero, suc, ◌+◌, ◌-◌, ◌*◌, ◌==◌, nat_lt, nat_le, List, [], ◌∷◌, length, take, drop, Option, Some, None, Result, Ok, Err, option_map, if◌then◌else◌, ◌↔◌}
use Rattle.net_wire.specs.declared.error.Malformed.{Malformed}

-- what stands first in bytes
pub data NamePiece : Type 0 where
  -- the end of a name; the bytes after it
  AtEnd : List ℕ → NamePiece
  -- a label; the bytes after it
  AtLabel : List ℕ → List ℕ → NamePiece
  -- where the name goes on, as an offset in the message; the bytes after it
  AtPointer : ℕ → List ℕ → NamePiece
  -- nothing of a name
  AtFault : NamePiece

-- a pointer by its first byte, whose two highest bits are set, and the byte after it
abbrev pub pointer_at : ℕ → List ℕ → NamePiece
pointer_at high [] = AtFault
pointer_at high (low ∷ after) = AtPointer ((high - 0xC0) * 256 + low) after

-- A zero byte ends a name, a byte up to 63 is the length of a label, one from C0 on begins a pointer; the
-- others are reserved.
abbrev pub piece_at : List ℕ → NamePiece
piece_at [] = AtFault
piece_at (first ∷ after) =
    if first == 0 then AtEnd after
    else if nat_lt first 64
    then (if nat_le first (length after) then AtLabel (take first after) (drop first after) else AtFault)
    else if nat_lt first 0xC0 then AtFault else pointer_at first after

-- labels in order, of which a fault is the last one
abbrev pub LabelList : Type 0
LabelList = List (Result (List ℕ) Malformed)

abbrev pub fault : LabelList
fault = Err (record {}) ∷ []

-- The labels from a piece on, where `next` says what the bytes further on give: its first argument is where a
-- pointer may lead, its second the bytes to read. A pointer goes on below the last one.
abbrev pub labels_after : (List ℕ → List ℕ → LabelList) → List ℕ → NamePiece → LabelList
labels_after next below (AtEnd after) = []
labels_after next below (AtLabel label after) = Ok label ∷ next below after
labels_after next below (AtPointer target after) =
    if nat_lt target (length below) then next (take target below) (drop target below) else fault
labels_after next below AtFault = fault

-- so many pieces at most
unfoldable pub labels_within : ℕ → List ℕ → List ℕ → LabelList
labels_within zero below bytes = fault
labels_within (suc n) below bytes = labels_after (labels_within n) below (piece_at bytes)

-- The labels of the name that stands first in the bytes, where pointers lead into `below`. Each piece takes
-- some of the bytes, or leaves less below, so there are no more pieces than bytes.
abbrev pub labels_at : List ℕ → List ℕ → LabelList
labels_at below bytes = labels_within (length below + length bytes) below bytes

-- the name that labels make, if there is no fault among them
abbrev pub name_of : LabelList → Option (List (List ℕ))
name_of [] = Some []
name_of (Ok label ∷ more) = option_map (λ name. label ∷ name) (name_of more)
name_of (Err _ ∷ more) = None

-- the name that stands first in the bytes, in a message
abbrev pub name_at : List ℕ → List ℕ → Option (List (List ℕ))
name_at message bytes = name_of (labels_at message bytes)

-- how long a name is where it has no pointer: a length byte for each label, and the closing zero
abbrev pub wire_len : List (List ℕ) → ℕ
wire_len [] = 1
wire_len (label ∷ name) = 1 + length label + wire_len name

-- how many bytes a name has in place, by its first piece and the number that the bytes after a label have
abbrev pub name_len_after : (List ℕ → Option ℕ) → NamePiece → Option ℕ
name_len_after next (AtEnd after) = Some 1
name_len_after next (AtLabel label after) = option_map (λ n. 1 + length label + n) (next after)
name_len_after next (AtPointer target after) = Some 2
name_len_after next AtFault = None

unfoldable pub name_len_within : ℕ → List ℕ → Option ℕ
name_len_within zero bytes = None
name_len_within (suc n) bytes = name_len_after (name_len_within n) (piece_at bytes)

-- how many bytes the name has in place that stands first in the bytes
abbrev pub name_len : List ℕ → Option ℕ
name_len bytes = name_len_within (length bytes) bytes

-- The bytes spell a name where pointers lead below (RFC 1035, section 4.1.4): a zero byte, the root; a label
-- and then what the bytes after it spell; or a pointer to "a prior occurrence", and then what stands there
-- spells.
pub data Spells : List ℕ → List ℕ → List (List ℕ) → Type 0 where
  ends : (below bytes after : List ℕ) → piece_at bytes ≡ AtEnd after → Spells below bytes []
  goes_on : (below bytes label after : List ℕ) (name : List (List ℕ)) → piece_at bytes ≡ AtLabel label after
      → Spells below after name → Spells below bytes (label ∷ name)
  points : (below bytes after : List ℕ) (target : ℕ) (name : List (List ℕ))
      → piece_at bytes ≡ AtPointer target after
      → target < length below → Spells (take target below) (drop target below) name → Spells below bytes name

-- the name that is read is the one that the bytes spell
abbrev pub ReadsSpelled : Type 0
ReadsSpelled =
    (message bytes : List ℕ) (name : List (List ℕ))
    → Spells message bytes name ↔ (name_at message bytes ≡ Some name)
