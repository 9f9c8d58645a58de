-- The bytes of an ESP header, and what they read as.
use Rattle.std.proofs.Common.{◌≡◌, ℕ, ◌^◌, ◌<◌, ◌≤◌, List, ◌++◌, length, drop, slice_range, ◌∙◌, ap, sym, append_assoc, arith}
use Rattle.std.specs.Int.{to_be_bytes, w32}
use Rattle.std.proofs.lemmas.List.Folds.{drop_split}
use Rattle.std.proofs.lemmas.Nat.{from_be_bytes-to_be_bytes_4}
use Rattle.ipsec_wire.specs.Esp.{Header, header_of, header_bytes, IsReadBack, ChangesNothing}
use Rattle.ipsec_wire.proofs.ByteLemmas.{to_be_bytes-be32_at}

pub reads_back : (h : Header) (rest : List ℕ) → h.security_parameters_index < 2 ^ 32
    → h.sequence_number < 2 ^ 32 → header_of (header_bytes h ++ rest) ≡ h
unfolding header_bytes
reads_back h rest index sequence =
    rw (
      from_be_bytes-to_be_bytes_4 h.security_parameters_index index,
      from_be_bytes-to_be_bytes_4 h.sequence_number sequence,
    )

pub is_whole : (h : Header) (rest : List ℕ) → 8 ≤ length (header_bytes h ++ rest)
unfolding header_bytes
is_whole h rest = omega arith

pub read_back : IsReadBack
read_back h rest index sequence = (is_whole h rest, reads_back h rest index sequence)

parts : (h : Header) (index sequence : List ℕ) → to_be_bytes w32 h.security_parameters_index ≡ index
    → to_be_bytes w32 h.sequence_number ≡ sequence
    → header_bytes h ≡ index ++ sequence
unfolding header_bytes
parts h index sequence is_index is_sequence = rw (← is_index, ← is_sequence)

pub changes_nothing : ChangesNothing
changes_nothing bytes all whole =
    let written = parts (header_of bytes) (slice_range bytes 0 4) (slice_range bytes 4 8)
    (to_be_bytes-be32_at bytes 0 all (omega arith)) (to_be_bytes-be32_at bytes 4 all (omega arith)) in
    let rest : bytes ≡ slice_range bytes 0 4 ++ (slice_range bytes 4 8 ++ drop 8 bytes) =
    drop_split bytes 0 4 (omega arith)
    ∙ ap (λ part. slice_range bytes 0 4 ++ part) (drop_split bytes 4 8 (omega arith)) in
    rw written (append_assoc (slice_range bytes 0 4) (slice_range bytes 4 8) (drop 8 bytes) ∙ sym rest)
