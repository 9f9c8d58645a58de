-- The capture of a run: libpcap's file format over Ethernet (draft-ietf-opsawg-pcap), for each row the frame
-- that arrived, and then the one that was sent.
use Rattle.std.specs.Prelude.{ℕ, ◌<◌, ◌^◌, List, [], ◌++◌, length, Option, Some, None, IfSome}
use Rattle.std.specs.List.{flat_map}
use Rattle.phy_layers.specs.PcapBytes.{epoch_micros, global_header, packet_record}
use Rattle.server_run.specs.declared.report.ServeRow.{ServeRow}

-- the record of a frame at a time, where there is one
abbrev pub frame_record : ℕ → Option (List ℕ) → List ℕ
frame_record at None = []
frame_record at (Some frame) = packet_record at frame

abbrev pub row_records : ServeRow → List ℕ
row_records row =
    frame_record (epoch_micros row.at) row.arrived ++ frame_record (epoch_micros row.at) row.sent

-- the whole capture: link type 1 is Ethernet
abbrev pub serve_capture : List ServeRow → List ℕ
serve_capture rows = global_header 1 ++ flat_map row_records rows

-- a frame that a record of a capture can hold, where there is one
abbrev pub IsCapturableFrame : Option (List ℕ) → Type 0
IsCapturableFrame frame = IfSome frame (λ bytes. length bytes < 2 ^ 32)
