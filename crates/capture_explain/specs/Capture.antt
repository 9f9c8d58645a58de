-- A capture file (libpcap's file format, draft-ietf-opsawg-pcap, sections 4 and 5): a header, and an entry
-- for each frame. All numbers are little-endian. Times and lengths are not compared.
use Rattle.std.specs.Prelude.{◌≡◌, ℕ, ◌^◌, ◌<◌, ◌≤◌, List, [], ◌∷◌, ◌++◌, length, ⊤}
use Rattle.std.specs.Int.{to_le_bytes, w16, w32}
use Rattle.phy_layers.specs.PcapBytes.{snap_len}

-- the magic number of times in microseconds, and version 2.4
abbrev pub header_front : List ℕ
header_front = to_le_bytes w32 0xa1b2c3d4 ++ to_le_bytes w16 2 ++ to_le_bytes w16 4

-- the link type of Ethernet
abbrev pub header_end : List ℕ
header_end = to_le_bytes w32 1

-- the header of a file of Ethernet frames, with any three numbers in its middle
pub record IsHeader (bytes : List ℕ) : Type 0 where
  pub middle : List ℕ
  pub twelve : length middle ≡ 12
  pub whole : bytes ≡ header_front ++ middle ++ header_end

-- an entry: its time in seconds and microseconds, the length that its frame had, and the bytes of the frame that
-- were captured
pub record CaptureEntry : Type 0 where
  pub secs : ℕ
  pub micros : ℕ
  pub told : ℕ
  pub frame : List ℕ

-- the four numbers in front of a frame: seconds, microseconds, captured length, length
abbrev pub entry_head : ℕ → ℕ → ℕ → ℕ → List ℕ
entry_head secs micros captured told =
    to_le_bytes w32 secs ++ to_le_bytes w32 micros ++ to_le_bytes w32 captured ++ to_le_bytes w32 told

-- the bytes of an entry
abbrev pub entry_bytes : CaptureEntry → List ℕ
entry_bytes entry = entry_head entry.secs entry.micros (length entry.frame) entry.told ++ entry.frame

-- an entry that can stand in a file: its numbers have four bytes, and no more of a frame is captured than that
pub record IsEntry (entry : CaptureEntry) : Type 0 where
  pub secs_fit : entry.secs < 2 ^ 32
  pub micros_fit : entry.micros < 2 ^ 32
  pub told_fits : entry.told < 2 ^ 32
  pub captured : length entry.frame ≤ snap_len

-- entries one behind the other
abbrev pub AreEntries : List CaptureEntry → Type 0
AreEntries [] = ⊤
AreEntries (entry ∷ entries) = IsEntry entry × AreEntries entries

abbrev pub entries_bytes : List CaptureEntry → List ℕ
entries_bytes [] = []
entries_bytes (entry ∷ entries) = entry_bytes entry ++ entries_bytes entries

-- the bytes are a header and these entries
pub record IsFront (entries : List CaptureEntry) (front : List ℕ) : Type 0 where
  pub header : List ℕ
  pub is_header : IsHeader header
  pub fit : AreEntries entries
  pub whole : front ≡ header ++ entries_bytes entries

-- the bytes are a file of these entries, at most `max`
pub record IsCaptureFile (max : ℕ) (bytes : List ℕ) (entries : List CaptureEntry) : Type 0 where
  pub is_front : IsFront entries bytes
  pub few : length entries ≤ max

-- no front of the bytes is a header; none is an entry
abbrev pub HasNoHeader : List ℕ → Type 0
HasNoHeader bytes = (header rest : List ℕ) → IsHeader header → bytes ≡ header ++ rest → ⊥

abbrev pub BeginsNoEntry : List ℕ → Type 0
BeginsNoEntry bytes = (entry : CaptureEntry) (rest : List ℕ) → IsEntry entry
    → bytes ≡ entry_bytes entry ++ rest → ⊥

-- The bytes are a header and fewer than `max` entries, of together `offset` bytes, and then at least one byte;
-- no entry stands there.
pub record IsBrokenAt (max : ℕ) (bytes : List ℕ) (offset : ℕ) : Type 0 where
  pub entries : List CaptureEntry
  pub front : List ℕ
  pub more : List ℕ
  pub is_front : IsFront entries front
  pub whole : bytes ≡ front ++ more
  pub few : length entries < max
  pub place : offset ≡ length front
  pub goes_on : 0 < length more
  pub no_entry : BeginsNoEntry more

-- the bytes are a header and `max` entries, and at least one byte more
pub record IsOverLimit (max : ℕ) (bytes : List ℕ) : Type 0 where
  pub entries : List CaptureEntry
  pub front : List ℕ
  pub more : List ℕ
  pub is_front : IsFront entries front
  pub whole : bytes ≡ front ++ more
  pub full : length entries ≡ max
  pub goes_on : 0 < length more
