-- Queries change no script without them: its class is the same where they are no events, unless it is broken
-- where one of their kinds stands.
use Rattle.std.specs.Prelude.{◌≡◌, ℕ, ◌<◌, ◌⊎◌, List, ◌++◌, length, slice_index, ⊤}
use Rattle.std.specs.List.{AllByRecursion}
use Rattle.host_model.specs.Script.{Arrival, Tick, Reset, Frame, Query, Event, Spells, IsNext, last_time}
use Rattle.host_model.specs.Classes.{IsScript, BeginsWith, IsOverLimit, IsBrokenAt}

-- an event that brings no query
abbrev pub BringsNoQuery : Arrival → Type 0
BringsNoQuery Tick = ⊤
BringsNoQuery Reset = ⊤
BringsNoQuery (Frame bytes) = ⊤
BringsNoQuery (Query type_ name) = ⊥

abbrev pub IsPlain : Event → Type 0
IsPlain event = BringsNoQuery event.arrival

abbrev pub ArePlain : List Event → Type 0
ArePlain events = AllByRecursion IsPlain events

-- no front of the bytes is such an event that may follow one at the time `last`
abbrev pub BeginsNoPlain : ℕ → List ℕ → Type 0
BeginsNoPlain last bytes = (event : Event) (front rest : List ℕ)
    → IsPlain event → IsNext last event → Spells event front → bytes ≡ front ++ rest → ⊥

-- The classes with no other events: a script,
pub record IsPlainScript (max : ℕ) (bytes : List ℕ) (events : List Event) : Type 0 where
  pub script : IsScript max bytes events
  pub plain : ArePlain events

-- over the limit,
pub record IsPlainOver (max : ℕ) (bytes : List ℕ) : Type 0 where
  pub over : IsOverLimit max bytes
  pub plain : ArePlain over.events

-- and broken
pub record IsPlainBroken (max : ℕ) (bytes : List ℕ) (offset : ℕ) : Type 0 where
  pub events : List Event
  pub front : List ℕ
  pub more : List ℕ
  pub begins : BeginsWith events front more bytes
  pub plain : ArePlain events
  pub few : length events < max
  pub place : offset ≡ length front
  pub goes_on : 0 < length more
  pub no_plain : BeginsNoPlain (last_time 0 events) more

-- a kind of queries stands at a place
abbrev pub NamesQuery : List ℕ → ℕ → Type 0
NamesQuery bytes offset = (slice_index bytes offset ≡ 3) ⊎ (slice_index bytes offset ≡ 5)

-- Such a script is a script of the same events and of no others, what is over the limit stays so, and what is
-- broken stays so at its place, or has a kind of queries there.
pub record KindsAreAdded : Type 0 where
  pub same : (max : ℕ) (bytes : List ℕ) (events : List Event) → IsPlainScript max bytes events
      → IsScript max bytes events × ((others : List Event) → IsScript max bytes others → others ≡ events)
  pub over : (max : ℕ) (bytes : List ℕ) → IsPlainOver max bytes → IsOverLimit max bytes
  pub broken : (max : ℕ) (bytes : List ℕ) (offset : ℕ) → IsPlainBroken max bytes offset
      → IsBrokenAt max bytes offset ⊎ NamesQuery bytes offset
