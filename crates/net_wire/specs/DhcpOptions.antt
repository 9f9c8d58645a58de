-- The options of a DHCP message as a list (RFC 2132, section 2), and which of a kind counts.
use Rattle.std.specs.Prelude.{ℕ, suc, zero, ◌%◌, ◌&&◌, ◌||◌, ◌==◌, Bool, false, nat_le, nat_lt, List, [], ◌∷◌}
use Rattle.std.specs.Prelude.{length, take, drop, slice_index, Option, Some, None, if◌then◌else◌}

-- an option: its kind and its bytes
pub record Item : Type 0 where
  pub kind : ℕ
  pub bytes : List ℕ

abbrev pub item_with : ℕ → List ℕ → Item
item_with kind bytes = record { kind = kind; bytes = bytes }

-- What bytes of options begin with: padding, which is one byte of kind 0; an option; or their end. Kind 255
-- ends them, as do the end of the bytes and an option that is cut short.
pub data OptionPiece : Type 0 where
  AtPad : List ℕ → OptionPiece
  AtItem : Item → List ℕ → OptionPiece
  AtEnd : OptionPiece

abbrev pub sized_piece : ℕ → ℕ → List ℕ → OptionPiece
sized_piece kind len after =
    if nat_le len (length after) then AtItem (item_with kind (take len after)) (drop len after) else AtEnd

abbrev pub option_piece : List ℕ → OptionPiece
option_piece [] = AtEnd
option_piece (kind ∷ []) = if kind == 0 then AtPad [] else AtEnd
option_piece (kind ∷ len ∷ after) =
    if kind == 0 then AtPad (len ∷ after)
    else if kind == 255 then AtEnd
    else sized_piece kind len after

-- the options that a piece gives, where `next` gives those of the bytes behind it
abbrev pub items_after : (List ℕ → List Item) → OptionPiece → List Item
items_after next (AtPad after) = next after
items_after next (AtItem item after) = item ∷ next after
items_after next AtEnd = []

-- the options of bytes with so many pieces at most
unfoldable pub items_within : ℕ → List ℕ → List Item
items_within zero bytes = []
items_within (suc n) bytes = items_after (items_within n) (option_piece bytes)

-- the options of the bytes, in their order
abbrev pub items_of : List ℕ → List Item
items_of bytes = items_within (length bytes) bytes

-- The length that an option of a kind has to have, by the section of RFC 2132: message type (9.6) 1; subnet
-- mask (3.3), requested address (9.1), lease (9.2), server identifier (9.7), renewal and rebinding times
-- (9.11, 9.12) 4; greatest message size (9.10) 2; client identifier (9.14) 7, the first byte being 1, for
-- Ethernet; routers (3.5) and name servers (3.8) addresses of 4; request list (9.8) any but 0. An option of
-- another length is passed over.
abbrev pub is_right : ℕ → List ℕ → Bool
is_right kind bytes =
    if kind == 53 then length bytes == 1
    else if kind == 1 || kind == 50 || kind == 51 || kind == 54 || kind == 58 || kind == 59
    then length bytes == 4
    else if kind == 57 then length bytes == 2
    else if kind == 61 then (length bytes == 7) && (slice_index bytes 0 == 1)
    else if kind == 3 || kind == 6 then nat_lt 0 (length bytes) && (length bytes % 4 == 0)
    else if kind == 55 then nat_lt 0 (length bytes)
    else false

-- the bytes of an option where it is of the kind and of a right length, and else those before it
abbrev pub newest_of : ℕ → Item → Option (List ℕ) → Option (List ℕ)
newest_of kind item before =
    if (item.kind == kind) && is_right kind item.bytes then Some item.bytes else before

-- the bytes of the last option of a kind with a right length, and `before` where there is none
abbrev pub last_from : ℕ → Option (List ℕ) → List Item → Option (List ℕ)
last_from kind before [] = before
last_from kind before (item ∷ more) = last_from kind (newest_of kind item before) more

abbrev pub last_of : ℕ → List Item → Option (List ℕ)
last_of kind items = last_from kind None items
