-- The header of the encapsulating security payload (RFC 4303, section 2): security parameters index, sequence
-- number.
use Rattle.std.specs.Prelude.{◌≡◌, ℕ, ◌^◌, ◌<◌, ◌≤◌, List, ◌++◌, length, drop, All}
use Rattle.std.specs.Int.{to_be_bytes, w32}
use Rattle.wire_base.specs.Bytes.{be32_at}

-- the bytes begin with a header
abbrev pub IsWhole : List ℕ → Type 0
IsWhole bytes = 8 ≤ length bytes

-- a header as a value
pub record Header : Type 0 where
  pub security_parameters_index : ℕ
  pub sequence_number : ℕ

-- the header that the bytes begin with
abbrev pub header_of : List ℕ → Header
header_of bytes = record { security_parameters_index = be32_at bytes 0; sequence_number = be32_at bytes 4 }

-- the bytes of a header
unfoldable pub header_bytes : Header → List ℕ
header_bytes h = to_be_bytes w32 h.security_parameters_index ++ to_be_bytes w32 h.sequence_number

-- the bytes of a header, with anything behind them, are a whole header and read as it
abbrev pub IsReadBack : Type 0
IsReadBack = (h : Header) (rest : List ℕ) → h.security_parameters_index < 2 ^ 32 → h.sequence_number < 2 ^ 32
    → IsWhole (header_bytes h ++ rest) × (header_of (header_bytes h ++ rest) ≡ h)

-- writing what bytes read as over these bytes changes nothing
abbrev pub ChangesNothing : Type 0
ChangesNothing = (bytes : List ℕ) → All (λ byte. byte < 256) bytes → IsWhole bytes
    → header_bytes (header_of bytes) ++ drop 8 bytes ≡ bytes
