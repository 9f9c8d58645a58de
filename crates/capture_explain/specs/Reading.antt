-- What is read of a capture: its header, and an entry.
use Rattle.std.specs.Prelude.{◌≡◌, ℕ, ◌<◌, ◌≤◌, ◌⊎◌, Bool, false, List, length, take, Option}
use Rattle.std.specs.Io.KnownBytes.{Consumes, IsAtEnd}
use Rattle.phy_layers.specs.PcapBytes.{snap_len}
use Rattle.capture_explain.specs.Capture.{CaptureEntry, entry_head, entry_bytes, IsHeader, IsEntry}
use Rattle.capture_explain.specs.Places.{IsInside, IsWrongHeader, IsWrongLength}
use Rattle.capture_explain.specs.declared.error.ExplainError.{ExplainError}
use Rattle.capture_explain.specs.declared.error.ExplainError.TheVariants.{Header, Entry, Limit, Read}
use Rattle.capture_explain.specs.declared.entry_reader.EntryHead.{EntryHead}

-- a header was read
pub record GivesHeader (left_old left_new : Option (List ℕ)) : Type 0 where
  pub header : List ℕ
  pub is_header : IsHeader header
  pub took : Consumes left_old left_new header

-- how the bytes end that are no header, by the answer
abbrev pub EndsHeader : ExplainError → Option (List ℕ) → List ℕ → Type 0
EndsHeader Header left part = IsWrongHeader part ⊎ ((length part < 24) × IsAtEnd left)
EndsHeader Read left part = length part < 24
EndsHeader error left part = ⊥

-- no header was read, by the answer
pub record CutsHeader (error : ExplainError) (left_old left_new : Option (List ℕ)) : Type 0 where
  pub part : List ℕ
  pub took : Consumes left_old left_new part
  pub ends : EndsHeader error left_new part

-- the numbers of an entry
abbrev pub head_bytes : EntryHead → List ℕ
head_bytes head = entry_head head.secs head.micros head.captured head.length

-- the numbers of an entry were read
pub record GivesNumbers (left_old left_new : Option (List ℕ)) (head : EntryHead) : Type 0 where
  pub within : head.captured ≤ snap_len
  pub took : Consumes left_old left_new (head_bytes head)

-- an entry with these numbers in front of its frame
abbrev pub entry_with : EntryHead → List ℕ → CaptureEntry
entry_with head frame =
    record { secs = head.secs; micros = head.micros; told = head.length; frame = frame }

-- an entry was read, its frame to the front of a buffer
pub record GivesEntry (left_old left_new : Option (List ℕ)) (into : List ℕ) (head : EntryHead) : Type 0 where
  pub captured : length (take head.captured into) ≡ head.captured
  pub fits : IsEntry (entry_with head (take head.captured into))
  pub took : Consumes left_old left_new (entry_bytes (entry_with head (take head.captured into)))

-- How the bytes end that are no entry, by the answer: with a captured length that no entry has, or with the
-- input; behind the last entry that there may be, with one byte.
abbrev pub EndsEntry : ExplainError → Option (List ℕ) → List ℕ → Type 0
EndsEntry (Entry offset) left part = (0 < length part) × (IsWrongLength part ⊎ (IsInside part × IsAtEnd left))
EndsEntry Limit left part = length part ≡ 1
EndsEntry Read left part = IsInside part
EndsEntry error left part = ⊥

-- No entry was read, by the answer. Behind the last entry that there may be, a source fails only where no byte was
-- taken.
pub record CutsEntry (error : ExplainError) (is_full : Bool) (left_old left_new : Option (List ℕ)) : Type 0 where
  pub part : List ℕ
  pub took : Consumes left_old left_new part
  pub ends : EndsEntry error left_new part
  pub tried : error ≡ Read → 0 < length part → is_full ≡ false
