-- The parts of a capture file, in their order: its header, the four numbers of an entry, its frame. Each is tried
-- when all its bytes are there.
use Rattle.std.specs.Prelude.{◌≡◌, ℕ, ◌^◌, ◌<◌, ◌≤◌, ◌⊎◌, List, ◌++◌, length}
use Rattle.phy_layers.specs.PcapBytes.{snap_len}
use Rattle.capture_explain.specs.Capture.{entry_head, IsHeader, HasNoHeader, BeginsNoEntry}

-- as many bytes as a header has, which are none
pub record IsWrongHeader (part : List ℕ) : Type 0 where
  pub whole : length part ≡ 24
  pub wrong : IsHeader part → ⊥

-- the numbers of an entry, and not yet so many bytes of its frame
pub record IsInFrame (part : List ℕ) : Type 0 where
  pub secs : ℕ
  pub micros : ℕ
  pub captured : ℕ
  pub told : ℕ
  pub front : List ℕ
  pub within : captured ≤ snap_len
  pub whole : part ≡ entry_head secs micros captured told ++ front
  pub short : length front < captured

-- the bytes end inside an entry: in its numbers or in its frame
abbrev pub IsInside : List ℕ → Type 0
IsInside part = (length part < 16) ⊎ IsInFrame part

-- the numbers of an entry, with a captured length that no entry has
pub record IsWrongLength (part : List ℕ) : Type 0 where
  pub secs : ℕ
  pub micros : ℕ
  pub captured : ℕ
  pub told : ℕ
  pub fits : captured < 2 ^ 32
  pub whole : part ≡ entry_head secs micros captured told
  pub wrong : snap_len < captured

-- Bytes begin with no header and no entry where a part is refused, whatever follows, or where they end inside it.
pub record NoPartIsRefused : Type 0 where
  pub wrong_header : (part more : List ℕ) → IsWrongHeader part → HasNoHeader (part ++ more)
  pub cut_header : (part : List ℕ) → length part < 24 → HasNoHeader part
  pub wrong_length : (part more : List ℕ) → IsWrongLength part → BeginsNoEntry (part ++ more)
  pub cut_entry : (part : List ℕ) → IsInside part → BeginsNoEntry part
