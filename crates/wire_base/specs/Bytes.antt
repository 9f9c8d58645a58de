-- Numbers at a place of a list of bytes, in network byte order (RFC 791, appendix B).
use Rattle.std.specs.Prelude.{ℕ, ◌+◌, ◌/◌, ◌%◌, ◌^◌, ◌==◌, Bool, List, slice_range, slice_index}
use Rattle.std.specs.Int.{from_be_bytes, w16, w32, w64}

-- the bytes from a place up to, but without, another one
abbrev pub bytes_between : ℕ → ℕ → List ℕ → List ℕ
bytes_between start end bytes = slice_range bytes start end

-- the number of two bytes
abbrev pub be16_at : List ℕ → ℕ → ℕ
be16_at bytes at = from_be_bytes w16 (bytes_between at (at + 2) bytes)

-- the number of four bytes
abbrev pub be32_at : List ℕ → ℕ → ℕ
be32_at bytes at = from_be_bytes w32 (bytes_between at (at + 4) bytes)

-- the number of eight bytes
abbrev pub be64_at : List ℕ → ℕ → ℕ
be64_at bytes at = from_be_bytes w64 (bytes_between at (at + 8) bytes)

-- one bit of a byte, the lowest one being bit 0
abbrev pub flag_at : List ℕ → ℕ → ℕ → Bool
flag_at bytes at bit = slice_index bytes at / 2 ^ bit % 2 == 1
