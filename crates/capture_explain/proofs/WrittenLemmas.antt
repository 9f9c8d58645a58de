-- What a sink of captures is given is a file.
use Rattle.std.proofs.Common.{◌≡◌, ℕ, ◌*◌, ◌/◌, ◌%◌, ◌^◌, ◌<◌, ◌≤◌, List, ◌++◌, length, take, min, ap₂, refl, arith}
use Rattle.std.specs.Int.{to_le_bytes, w32}
use Rattle.std.proofs.lemmas.List.{take_all}
use Rattle.phy_layers.specs.PcapBytes.{snap_len, global_header, record_header, packet_record}
use Rattle.capture_explain.specs.Capture.{IsHeader, IsEntry, entry_head, entry_bytes}
use Rattle.capture_explain.specs.Laws.{entry_of, AreWritten}

written_header : IsHeader (global_header 1)
unfolding global_header
written_header = record {
  middle = to_le_bytes w32 0 ++ to_le_bytes w32 0 ++ to_le_bytes w32 snap_len;
  twelve = refl;
  whole = refl;
}

written_entry : (micros : ℕ) (frame : List ℕ) → micros < 2 ^ 32 * 1000000 → length frame ≤ snap_len → IsEntry (entry_of micros frame)
written_entry micros frame early within = record {
  secs_fit = omega arith;
  micros_fit = omega arith;
  told_fits = omega (arith, within);
  captured = within;
}

written_bytes : (micros : ℕ) (frame : List ℕ) → length frame ≤ snap_len → packet_record micros frame ≡ entry_bytes (entry_of micros frame)
unfolding packet_record record_header
written_bytes micros frame within =
    let all : take snap_len frame ≡ frame = take_all snap_len frame within in
    let captured : min (length frame) snap_len ≡ length frame = omega (arith, within) in
    ap₂ (λ n l. entry_head (micros / 1000000) (micros % 1000000) n (length frame) ++ l) captured all

pub are_written : AreWritten
are_written = record { header = written_header; fits = written_entry; bytes = written_bytes }
