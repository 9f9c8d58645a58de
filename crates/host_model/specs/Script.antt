-- The script: a list of events in the order of their times, as docs/FORMATS.md lays it out. Numbers are
-- big-endian.
use Rattle.std.specs.Prelude.{◌≡◌, ℕ, ◌*◌, ◌^◌, ◌<◌, ◌≤◌, ◌⊎◌, List, [], ◌∷◌, ◌++◌, length, ⊤}
use Rattle.std.specs.Int.{to_be_bytes, w16, w64}
use Rattle.std.specs.Str.{IsUtf8}
use Rattle.net_wire.specs.declared.dns.dns_type.DnsType.{DnsType}
use Rattle.net_wire.specs.declared.dns.dns_type.DnsType.TheVariants.{A, Aaaa}
use Rattle.net_wire.specs.DnsMessage.{type_number}

-- what an event brings: nothing but its time, a reset of the DHCP client, a frame, or a query for addresses
-- of a type, by the bytes of a name
pub data Arrival : Type 0 where
  Tick : Arrival
  Reset : Arrival
  Frame : List ℕ → Arrival
  Query : DnsType → List ℕ → Arrival

-- an event: its time in microseconds, and what it brings
pub record Event : Type 0 where
  pub at : ℕ
  pub arrival : Arrival

-- a name behind its length of one byte
abbrev pub name_part : List ℕ → List ℕ
name_part name = length name ∷ name

-- A kind and the bytes behind the time spell a query: of the kind 3 for the type A, of the kind 5 for the
-- type that stands there.
abbrev pub SpellsQuery : DnsType → List ℕ → ℕ → List ℕ → Type 0
SpellsQuery type_ name kind rest =
    ((kind ≡ 3) × (type_ ≡ A) × (rest ≡ name_part name))
    ⊎ ((kind ≡ 5) × (rest ≡ to_be_bytes w16 (type_number type_) ++ name_part name))

-- a kind and the bytes behind the time spell what an event brings: a frame its length and itself
abbrev pub SpellsArrival : Arrival → ℕ → List ℕ → Type 0
SpellsArrival Tick kind rest = (kind ≡ 2) × (rest ≡ [])
SpellsArrival Reset kind rest = (kind ≡ 4) × (rest ≡ [])
SpellsArrival (Frame bytes) kind rest = (kind ≡ 1) × (rest ≡ to_be_bytes w16 (length bytes) ++ bytes)
SpellsArrival (Query type_ name) kind rest = SpellsQuery type_ name kind rest

-- the types of addresses (RFC 1035, section 3.2.2; RFC 3596, section 2.1)
abbrev pub IsAskedType : DnsType → Type 0
IsAskedType type_ = (type_ ≡ A) ⊎ (type_ ≡ Aaaa)

-- a name in UTF-8 (RFC 3629, section 3) whose length has one byte
abbrev pub IsName : List ℕ → Type 0
IsName name = (length name < 2 ^ 8) × IsUtf8 name

-- what can be spelled: a frame whose length has two bytes, a query for addresses
abbrev pub IsArrival : Arrival → Type 0
IsArrival Tick = ⊤
IsArrival Reset = ⊤
IsArrival (Frame bytes) = length bytes < 2 ^ 16
IsArrival (Query type_ name) = IsAskedType type_ × IsName name

-- the kind and the time
abbrev pub head_with : ℕ → ℕ → List ℕ
head_with kind at = kind ∷ [] ++ to_be_bytes w64 at

-- The bytes spell the event: its kind, its time, and what it brings.
pub record Spells (event : Event) (bytes : List ℕ) : Type 0 where
  pub kind : ℕ
  pub rest : List ℕ
  pub brings : SpellsArrival event.arrival kind rest
  pub whole : bytes ≡ head_with kind event.at ++ rest

-- The bytes spell the events, one behind the other, and nothing else.
abbrev pub SpellsAll : List Event → List ℕ → Type 0
SpellsAll [] bytes = bytes ≡ []
SpellsAll (event ∷ events) bytes =
    (front : List ℕ) × (rest : List ℕ) × (bytes ≡ front ++ rest) × Spells event front × SpellsAll events rest

-- 2^32 seconds in microseconds: times lie below it
abbrev pub time_limit : ℕ
time_limit = 2 ^ 32 * 1000000

-- an event may follow one at the time `last`: times are in range and never fall
pub record IsNext (last : ℕ) (event : Event) : Type 0 where
  pub not_before : last ≤ event.at
  pub in_range : event.at < time_limit
  pub arrival : IsArrival event.arrival

-- the events may follow one another, the first of them one at the time `last`
abbrev pub AreInOrder : ℕ → List Event → Type 0
AreInOrder last [] = ⊤
AreInOrder last (event ∷ events) = IsNext last event × AreInOrder event.at events

-- the time of the last event, and `last` where there is none
abbrev pub last_time : ℕ → List Event → ℕ
last_time last [] = last
last_time last (event ∷ events) = last_time event.at events

-- no front of the bytes is an event that may follow one at the time `last`
abbrev pub BeginsNoEvent : ℕ → List ℕ → Type 0
BeginsNoEvent last bytes =
    (event : Event) (front rest : List ℕ) → IsNext last event → Spells event front → bytes ≡ front ++ rest → ⊥

-- Bytes begin with one event at most: those of two next events are one event's, and the same bytes follow.
abbrev pub BeginsWithOne : Type 0
BeginsWithOne = (bytes : List ℕ) (one other : Event) (front rest begin more : List ℕ)
    → one.at < time_limit → other.at < time_limit → IsArrival one.arrival → IsArrival other.arrival
    → Spells one front → Spells other begin
    → bytes ≡ front ++ rest → bytes ≡ begin ++ more → (one ≡ other) × (rest ≡ more)
