-- The authentication header (RFC 4302, section 2): next header, length, two reserved bytes, security
-- parameters index, sequence number, integrity check value. Its length field counts the words of 32 bits,
-- less 2 (section 2.2).
use Rattle.std.specs.Prelude.{◌≡◌, ℕ, ◌+◌, ◌-◌, ◌*◌, ◌/◌, ◌%◌, ◌^◌, ◌<◌, ◌≤◌, ◌⊎◌, List, [], ◌∷◌, ◌++◌, length, take, drop, slice_index, All}
use Rattle.std.specs.Int.{to_be_bytes, w32}
use Rattle.wire_base.specs.Bytes.{bytes_between, be32_at}
use Rattle.net_wire.specs.Protocol.{ip_protocol_number, ip_protocol_of, IsNamed}
use Rattle.net_wire.specs.declared.protocol.IpProtocol.{IpProtocol}

-- the bytes of the header that the length field announces
abbrev pub header_len : List ℕ → ℕ
header_len bytes = (slice_index bytes 1 + 2) * 4

-- the bytes begin with a header: its fixed part is there, its length covers the fixed part, and it is there
-- whole
abbrev pub IsWhole : List ℕ → Type 0
IsWhole bytes = (12 ≤ length bytes) × (0 < slice_index bytes 1) × (header_len bytes ≤ length bytes)

-- the bytes begin with no header
abbrev pub IsCut : List ℕ → Type 0
IsCut bytes = (length bytes < 12) ⊎ (slice_index bytes 1 ≡ 0) ⊎ (length bytes < header_len bytes)

-- a header as a value
pub record Header : Type 0 where
  pub next_header : IpProtocol
  pub security_parameters_index : ℕ
  pub sequence_number : ℕ
  pub integrity_check_value : List ℕ

-- the header that the bytes begin with
abbrev pub header_of : List ℕ → Header
header_of bytes = record {
  next_header = ip_protocol_of (slice_index bytes 0);
  security_parameters_index = be32_at bytes 4;
  sequence_number = be32_at bytes 8;
  integrity_check_value = bytes_between 12 (header_len bytes) bytes;
}

-- the bytes of a header, its reserved bytes 0
unfoldable pub header_bytes : Header → List ℕ
header_bytes h =
    ip_protocol_number h.next_header ∷ ((12 + length h.integrity_check_value) / 4 - 2) ∷ 0 ∷ 0 ∷ []
    ++ to_be_bytes w32 h.security_parameters_index ++ to_be_bytes w32 h.sequence_number
    ++ h.integrity_check_value

-- a header that bytes can hold: its numbers fit, and its check value has whole words, as many as the length
-- field counts
pub record IsWritable (h : Header) : Type 0 where
  pub named : IsNamed h.next_header
  pub index : h.security_parameters_index < 2 ^ 32
  pub sequence : h.sequence_number < 2 ^ 32
  pub words : length h.integrity_check_value % 4 ≡ 0
  pub fits : length h.integrity_check_value ≤ 1016

-- the bytes of a header, with anything behind them, are a whole header and read as it
abbrev pub IsReadBack : Type 0
IsReadBack = (h : Header) (rest : List ℕ) → IsWritable h
    → IsWhole (header_bytes h ++ rest) × (header_of (header_bytes h ++ rest) ≡ h)

-- the bytes with the two reserved ones cleared
abbrev pub cleared : List ℕ → List ℕ
cleared bytes = take 2 bytes ++ 0 ∷ 0 ∷ [] ++ drop 4 bytes

-- writing what bytes read as over these bytes clears the reserved ones, and changes nothing else
abbrev pub ClearsReserved : Type 0
ClearsReserved = (bytes : List ℕ) → All (λ byte. byte < 256) bytes → IsWhole bytes
    → header_bytes (header_of bytes) ++ drop (length (header_bytes (header_of bytes))) bytes ≡ cleared bytes
