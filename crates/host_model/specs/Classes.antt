-- The three classes of a script.
use Rattle.std.specs.Prelude.{◌≡◌, ℕ, ◌<◌, ◌≤◌, ◌⊎◌, List, ◌++◌, length}
use Rattle.host_model.specs.Script.{Event, SpellsAll, AreInOrder, last_time, BeginsNoEvent}

-- The bytes are a script of these events: at most `max` events and nothing else.
pub record IsScript (max : ℕ) (bytes : List ℕ) (events : List Event) : Type 0 where
  pub in_order : AreInOrder 0 events
  pub few : length events ≤ max
  pub whole : SpellsAll events bytes

abbrev pub IsValidScript : ℕ → List ℕ → Type 0
IsValidScript max bytes = (events : List Event) × IsScript max bytes events

-- The bytes are events in order, and then more.
pub record BeginsWith (events : List Event) (front more bytes : List ℕ) : Type 0 where
  pub in_order : AreInOrder 0 events
  pub spelled : SpellsAll events front
  pub whole : bytes ≡ front ++ more

-- The bytes are `max` events and at least one byte more.
pub record IsOverLimit (max : ℕ) (bytes : List ℕ) : Type 0 where
  pub events : List Event
  pub front : List ℕ
  pub more : List ℕ
  pub begins : BeginsWith events front more bytes
  pub full : length events ≡ max
  pub goes_on : 0 < length more

-- The bytes are fewer than `max` events, of together `offset` bytes, and then at least one byte; no front of
-- what follows is a next event.
pub record IsBrokenAt (max : ℕ) (bytes : List ℕ) (offset : ℕ) : Type 0 where
  pub events : List Event
  pub front : List ℕ
  pub more : List ℕ
  pub begins : BeginsWith events front more bytes
  pub few : length events < max
  pub place : offset ≡ length front
  pub goes_on : 0 < length more
  pub no_event : BeginsNoEvent (last_time 0 events) more

-- Bytes are in exactly one of the classes: in one of them, in no two, valid for one list of events, broken at
-- one place.
pub record IsOneOfThree : Type 0 where
  pub some : (max : ℕ) (bytes : List ℕ)
      → IsValidScript max bytes ⊎ (IsOverLimit max bytes ⊎ ((offset : ℕ) × IsBrokenAt max bytes offset))
  pub not_over : (max : ℕ) (bytes : List ℕ) → IsValidScript max bytes → IsOverLimit max bytes → ⊥
  pub not_broken : (max : ℕ) (bytes : List ℕ) (offset : ℕ)
      → IsValidScript max bytes → IsBrokenAt max bytes offset → ⊥
  pub over_or_broken : (max : ℕ) (bytes : List ℕ) (offset : ℕ)
      → IsOverLimit max bytes → IsBrokenAt max bytes offset → ⊥
  pub one_script : (max : ℕ) (bytes : List ℕ) (events others : List Event)
      → IsScript max bytes events → IsScript max bytes others → events ≡ others
  pub one_place : (max : ℕ) (bytes : List ℕ) (here there : ℕ)
      → IsBrokenAt max bytes here → IsBrokenAt max bytes there → here ≡ there
