-- The parts of an event, in their order: its kind, its time, what it brings. Each is tried when all its bytes
-- are there.
use Rattle.std.specs.Prelude.{◌≡◌, ℕ, ◌^◌, ◌<◌, ◌≤◌, ◌⊎◌, List, [], ◌∷◌, ◌++◌, length}
use Rattle.std.specs.Int.{to_be_bytes, w16}
use Rattle.std.specs.Str.{IsUtf8}
use Rattle.net_wire.specs.declared.dns.dns_type.DnsType.{DnsType}
use Rattle.net_wire.specs.declared.dns.dns_type.DnsType.TheVariants.{A}
use Rattle.net_wire.specs.DnsMessage.{type_number}
use Rattle.host_model.specs.Script.{head_with, time_limit, name_part, IsAskedType, BeginsNoEvent}

-- a byte that names a kind
abbrev pub IsKind : ℕ → Type 0
IsKind kind = (1 ≤ kind) × (kind ≤ 5)

-- a time that may follow the time `last`
abbrev pub IsRightTime : ℕ → ℕ → Type 0
IsRightTime last at = (last ≤ at) × (at < time_limit)

-- a kind, and not yet a whole time
pub record IsInTime (part : List ℕ) : Type 0 where
  pub kind : ℕ
  pub known : IsKind kind
  pub time : List ℕ
  pub whole : part ≡ kind ∷ [] ++ time
  pub short : length time < 8

-- the kind of a frame, a right time, and not yet a whole length
pub record IsInLength (last : ℕ) (part : List ℕ) : Type 0 where
  pub at : ℕ
  pub right : IsRightTime last at
  pub front : List ℕ
  pub whole : part ≡ head_with 1 at ++ front
  pub short : length front < 2

-- the same, with a length, and not yet so many bytes of a frame
pub record IsInFrame (last : ℕ) (part : List ℕ) : Type 0 where
  pub at : ℕ
  pub right : IsRightTime last at
  pub len : ℕ
  pub fits : len < 2 ^ 16
  pub front : List ℕ
  pub whole : part ≡ head_with 1 at ++ (to_be_bytes w16 len ++ front)
  pub short : length front < len

-- the kind of a query with a type, a right time, and not yet a whole type
pub record IsInType (last : ℕ) (part : List ℕ) : Type 0 where
  pub at : ℕ
  pub right : IsRightTime last at
  pub front : List ℕ
  pub whole : part ≡ head_with 5 at ++ front
  pub short : length front < 2

-- the bytes of a query for addresses of a type, up to its name
abbrev pub BeginsQuery : DnsType → ℕ → List ℕ → Type 0
BeginsQuery type_ at head =
    ((type_ ≡ A) × (head ≡ head_with 3 at))
    ⊎ (IsAskedType type_ × (head ≡ head_with 5 at ++ to_be_bytes w16 (type_number type_)))

-- a query with a right time, and nothing of its name
pub record IsInNameLength (last : ℕ) (part : List ℕ) : Type 0 where
  pub type_ : DnsType
  pub at : ℕ
  pub right : IsRightTime last at
  pub begins : BeginsQuery type_ at part

-- the same, with a length, and not yet so many bytes of a name
pub record IsInName (last : ℕ) (part : List ℕ) : Type 0 where
  pub type_ : DnsType
  pub at : ℕ
  pub right : IsRightTime last at
  pub head : List ℕ
  pub begins : BeginsQuery type_ at head
  pub len : ℕ
  pub fits : len < 2 ^ 8
  pub front : List ℕ
  pub whole : part ≡ head ++ len ∷ front
  pub short : length front < len

-- The bytes end inside an event that may follow one at the time `last`: their parts are tried, and the next
-- one lacks bytes.
abbrev pub IsInside : ℕ → List ℕ → Type 0
IsInside last part =
    (part ≡ [])
    ⊎ (IsInTime part ⊎ (IsInLength last part ⊎ (IsInFrame last part
    ⊎ (IsInType last part ⊎ (IsInNameLength last part ⊎ IsInName last part)))))

-- a byte that names no kind
pub record IsWrongKind (part : List ℕ) : Type 0 where
  pub kind : ℕ
  pub whole : part ≡ kind ∷ []
  pub unknown : IsKind kind → ⊥

-- a kind, and a time that is out of range or before the time `last`
pub record IsWrongTime (last : ℕ) (part : List ℕ) : Type 0 where
  pub kind : ℕ
  pub known : IsKind kind
  pub at : ℕ
  pub fits : at < 2 ^ 64
  pub whole : part ≡ head_with kind at
  pub wrong : (at < last) ⊎ (time_limit ≤ at)

-- the kind of a query with a type, a right time, and a number that is no type of addresses
pub record IsWrongType (last : ℕ) (part : List ℕ) : Type 0 where
  pub at : ℕ
  pub right : IsRightTime last at
  pub number : ℕ
  pub fits : number < 2 ^ 16
  pub whole : part ≡ head_with 5 at ++ to_be_bytes w16 number
  pub wrong : (number ≡ 1) ⊎ (number ≡ 28) → ⊥

-- a query with a right time, and a name that is not in UTF-8
pub record IsWrongName (last : ℕ) (part : List ℕ) : Type 0 where
  pub type_ : DnsType
  pub at : ℕ
  pub right : IsRightTime last at
  pub head : List ℕ
  pub begins : BeginsQuery type_ at head
  pub name : List ℕ
  pub fits : length name < 2 ^ 8
  pub whole : part ≡ head ++ name_part name
  pub wrong : IsUtf8 name → ⊥

-- The bytes end with the first part that no event has which may follow one at the time `last`.
abbrev pub IsRefused : ℕ → List ℕ → Type 0
IsRefused last part =
    IsWrongKind part ⊎ (IsWrongTime last part ⊎ (IsWrongType last part ⊎ IsWrongName last part))

-- Bytes begin no next event where a part is refused, whatever follows, or where they end inside the event.
pub record NoEventIsRefused : Type 0 where
  pub refused : (last : ℕ) (part more : List ℕ) → IsRefused last part → BeginsNoEvent last (part ++ more)
  pub cut_off : (last : ℕ) (part : List ℕ) → IsInside last part → BeginsNoEvent last part
