-- Laws of texts.
use Rattle.std.specs.Prelude.{◌≡◌, ◌≢◌, ℕ, ◌<◌, ◌≤◌, ◌⊎◌, List, [], ◌∷◌, ◌++◌, length, Some, ⊤}
use Rattle.std.specs.List.{All, flat_map}
use Rattle.host_model.specs.Script.{Arrival, Tick, Reset, Frame, Query, Event, IsName, AreInOrder, time_limit}
use Rattle.script_text.specs.EventText.{time_text, hex_byte, name_text, events_text}
use Rattle.script_text.specs.Meaning.{IsRight, IsLong, IsWrongAt}
use Rattle.script_text.specs.Words.{time_of, hex_bytes, name_of}

-- A text is exactly one of right, long and wrong, with one list of events, or at one word.
pub record IsOneOfThree : Type 0 where
  pub some : (max : ℕ) (text : List ℕ)
      → ((events : List Event) × IsRight max text events)
      ⊎ (IsLong max text ⊎ ((line : ℕ) × ((word : ℕ) × IsWrongAt max text line word)))
  pub not_long : (max : ℕ) (text : List ℕ) (events : List Event)
      → IsRight max text events → IsLong max text → ⊥
  pub not_wrong : (max : ℕ) (text : List ℕ) (events : List Event) (line word : ℕ) → IsRight max text events
      → IsWrongAt max text line word → ⊥
  pub long_or_wrong : (max : ℕ) (text : List ℕ) (line word : ℕ)
      → IsLong max text → IsWrongAt max text line word → ⊥

-- What is written of a time, of the bytes of a frame and of a name is read again.
pub record ReadsWords : Type 0 where
  pub time : (last at : ℕ) → last ≤ at → at < time_limit → time_of last (time_text at) ≡ Some at
  pub bytes : (bytes : List ℕ) → All (λ byte. byte < 256) bytes
      → hex_bytes (flat_map hex_byte bytes) ≡ Some bytes
  pub name : (name : List ℕ) → All (λ byte. byte < 256) name → IsName name
      → name_of (name_text name) ≡ Some name

-- the numbers of what events bring are bytes
abbrev pub IsOfBytes : Arrival → Type 0
IsOfBytes Tick = ⊤
IsOfBytes Reset = ⊤
IsOfBytes (Frame bytes) = All (λ byte. byte < 256) bytes
IsOfBytes (Query type_ name) = All (λ byte. byte < 256) name

abbrev pub AreOfBytes : List Event → Type 0
AreOfBytes [] = ⊤
AreOfBytes (event ∷ events) = IsOfBytes event.arrival × AreOfBytes events

-- The text of events of a script is right, and has these events.
abbrev pub ReadsTexts : Type 0
ReadsTexts = (max : ℕ) (events : List Event) → AreInOrder 0 events → length events ≤ max → AreOfBytes events
    → IsRight max (events_text events) events

-- And so is that with a comment in a further line.
abbrev pub ReadsCommented : Type 0
ReadsCommented = (max : ℕ) (events : List Event) (comment : List ℕ) → AreInOrder 0 events → length events ≤ max
    → AreOfBytes events → All (λ byte. byte ≢ 0x0a) comment
    → IsRight max (events_text events ++ (0x23 ∷ (comment ++ (0x0a ∷ [])))) events

-- The events of a right text are those of a script: in the order of their times, and no more than may be.
abbrev pub HasScript : Type 0
HasScript = (max : ℕ) (text : List ℕ) (events : List Event) → IsRight max text events
    → AreInOrder 0 events × (length events ≤ max)
