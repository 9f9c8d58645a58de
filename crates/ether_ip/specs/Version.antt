-- The first byte of an IP header (RFC 791, section 3.1; RFC 8200, section 3).
use Rattle.std.specs.Prelude.{ℕ, ◌/◌, ◌%◌, List, slice_index}

-- the version
abbrev pub ip_version : List ℕ → ℕ
ip_version bytes = slice_index bytes 0 / 16

-- the header length of version 4, in words of four bytes
abbrev pub ihl : List ℕ → ℕ
ihl bytes = slice_index bytes 0 % 16
