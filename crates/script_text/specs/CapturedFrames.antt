-- A capture whose entries are frames of a script: their times never fall.
use Rattle.std.specs.Prelude.{◌≡◌, ℕ, ◌*◌, ◌+◌, ◌<◌, ◌≤◌, List, [], ◌∷◌, ◌++◌, length, ⊤}
use Rattle.host_model.specs.Script.{Event, Frame}
use Rattle.capture_explain.specs.Capture.{CaptureEntry, entry_bytes, entries_bytes, IsEntry, IsHeader}

-- the time of an entry in microseconds
abbrev pub entry_micros : CaptureEntry → ℕ
entry_micros entry = entry.secs * 1000000 + entry.micros

-- the frame of an entry, which came at its time
abbrev pub entry_event : CaptureEntry → Event
entry_event entry = record { at = entry_micros entry; arrival = Frame entry.frame }

-- the numbers in front of a frame that may come at the time `last` or later
pub record MayFollow (last secs micros captured : ℕ) : Type 0 where
  pub in_second : micros < 1000000
  pub not_before : last ≤ secs * 1000000 + micros
  pub short : captured ≤ 65535

-- an entry that may come at the time `last` or later
pub record IsNextEntry (last : ℕ) (entry : CaptureEntry) : Type 0 where
  pub fits : IsEntry entry
  pub follows : MayFollow last entry.secs entry.micros (length entry.frame)

-- entries one behind the other, the first of them at the time `last` or later
abbrev pub AreInOrder : ℕ → List CaptureEntry → Type 0
AreInOrder last [] = ⊤
AreInOrder last (entry ∷ entries) = IsNextEntry last entry × AreInOrder (entry_micros entry) entries

-- the time of the last entry, and `last` where there is none
abbrev pub last_time : ℕ → List CaptureEntry → ℕ
last_time last [] = last
last_time last (entry ∷ entries) = last_time (entry_micros entry) entries

-- the bytes are a header and these entries
pub record IsFront (entries : List CaptureEntry) (front : List ℕ) : Type 0 where
  pub header : List ℕ
  pub is_header : IsHeader header
  pub in_order : AreInOrder 0 entries
  pub whole : front ≡ header ++ entries_bytes entries

-- the bytes are a file of these entries, at most `max`
pub record IsFile (max : ℕ) (bytes : List ℕ) (entries : List CaptureEntry) : Type 0 where
  pub is_front : IsFront entries bytes
  pub few : length entries ≤ max

-- no front of the bytes is an entry that may come at the time `last` or later
abbrev pub BeginsNoNext : ℕ → List ℕ → Type 0
BeginsNoNext last bytes = (entry : CaptureEntry) (rest : List ℕ) → IsNextEntry last entry
    → bytes ≡ entry_bytes entry ++ rest → ⊥

-- The bytes are a header and fewer than `max` entries, of together `offset` bytes, and then at least one
-- byte; no entry that may come next stands there.
pub record IsBrokenAt (max : ℕ) (bytes : List ℕ) (offset : ℕ) : Type 0 where
  pub entries : List CaptureEntry
  pub front : List ℕ
  pub more : List ℕ
  pub is_front : IsFront entries front
  pub whole : bytes ≡ front ++ more
  pub few : length entries < max
  pub place : offset ≡ length front
  pub goes_on : 0 < length more
  pub no_entry : BeginsNoNext (last_time 0 entries) more

-- the bytes are a header and `max` entries, and at least one byte more
pub record IsOverLimit (max : ℕ) (bytes : List ℕ) : Type 0 where
  pub entries : List CaptureEntry
  pub front : List ℕ
  pub more : List ℕ
  pub is_front : IsFront entries front
  pub whole : bytes ≡ front ++ more
  pub full : length entries ≡ max
  pub goes_on : 0 < length more
