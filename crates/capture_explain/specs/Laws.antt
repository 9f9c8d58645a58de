-- Laws of captures and their rows.
use Rattle.std.specs.Prelude.{◌≡◌, ℕ, ◌*◌, ◌/◌, ◌%◌, ◌^◌, ◌<◌, ◌≤◌, List, length}
use Rattle.phy_layers.specs.PcapBytes.{snap_len, global_header, packet_record}
use Rattle.capture_explain.specs.Capture.{CaptureEntry, entry_bytes, IsHeader, IsEntry, IsCaptureFile}
use Rattle.capture_explain.specs.Rows.{AreRowsOf}
use Rattle.capture_explain.specs.declared.explanation.ExplainRow.{ExplainRow}

-- the entry of a frame that was captured whole, at so many microseconds
abbrev pub entry_of : ℕ → List ℕ → CaptureEntry
entry_of micros frame =
    record { secs = micros / 1000000; micros = micros % 1000000; told = length frame; frame = frame }

-- what a sink of captures is given for a file of Ethernet frames is a header, and for each frame of no more bytes
-- than a record holds, before 2^32 seconds, an entry
pub record AreWritten : Type 0 where
  pub header : IsHeader (global_header 1)
  pub fits : (micros : ℕ) (frame : List ℕ) → micros < 2 ^ 32 * 1000000 → length frame ≤ snap_len
      → IsEntry (entry_of micros frame)
  pub bytes : (micros : ℕ) (frame : List ℕ) → length frame ≤ snap_len
      → packet_record micros frame ≡ entry_bytes (entry_of micros frame)

-- Some bytes have the entries of one file at most, and those one list of rows.
pub record AreOneFile : Type 0 where
  pub entries : (max other : ℕ) (bytes : List ℕ) (some others : List CaptureEntry)
      → IsCaptureFile max bytes some → IsCaptureFile other bytes others → some ≡ others
  pub rows : (entries : List CaptureEntry) (rows others : List ExplainRow) → AreRowsOf entries rows
      → AreRowsOf entries others → rows ≡ others
