-- The bytes of a capture (libpcap's file format, draft-ietf-opsawg-pcap, sections 4 and 5), all numbers
-- little-endian.
use Rattle.std.specs.Prelude.{ℕ, ◌*◌, ◌/◌, ◌%◌, ◌^◌, List, ◌++◌, length, take, min, ℤ, pos, negsuc, ◌≤ℤ◌, ◌<ℤ◌}
use Rattle.std.specs.Int.{to_le_bytes, w16, w32}

-- the most bytes of a packet that a record holds
abbrev pub snap_len : ℕ
snap_len = 262144

-- the header of the file: magic number of records in microseconds, version 2.4, two unused numbers, the most
-- bytes of a packet, the number of the link type
unfoldable pub global_header : ℕ → List ℕ
global_header link_type =
    to_le_bytes w32 0xa1b2c3d4 ++ to_le_bytes w16 2 ++ to_le_bytes w16 4 ++ to_le_bytes w32 0
    ++ to_le_bytes w32 0
    ++ to_le_bytes w32 snap_len ++ to_le_bytes w32 link_type

-- the header of the record of a packet, which came at so many microseconds and is so long: seconds,
-- microseconds beside them, captured length, length
unfoldable pub record_header : ℕ → ℕ → List ℕ
record_header micros len =
    to_le_bytes w32 (micros / 1000000) ++ to_le_bytes w32 (micros % 1000000)
    ++ to_le_bytes w32 (min len snap_len)
    ++ to_le_bytes w32 len

-- the record of a packet
unfoldable pub packet_record : ℕ → List ℕ → List ℕ
packet_record micros packet = record_header micros (length packet) ++ take snap_len packet

-- the microseconds of a moment that is not before moment 0
abbrev pub epoch_micros : ℤ → ℕ
epoch_micros (pos micros) = micros
epoch_micros (negsuc _) = 0

-- a moment whose seconds a record can hold
abbrev pub IsCapturable : ℤ → Type 0
IsCapturable at = (pos 0 ≤ℤ at) × (at <ℤ pos (2 ^ 32 * 1000000))
