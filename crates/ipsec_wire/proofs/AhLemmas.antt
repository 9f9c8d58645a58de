-- The bytes of an authentication header, and what they read as.
use Rattle.std.proofs.Common.{◌≡◌, ℕ, ◌+◌, ◌-◌, ◌*◌, ◌/◌, ◌%◌, List, [], ◌∷◌, ◌++◌, length, drop, slice_index, slice_range, ◌∙◌, ap, sym, arith, length-append, length-take, length-drop}
use Rattle.std.specs.Int.{to_be_bytes, w32}
use Rattle.std.proofs.Math.Seq.{take-append_seam}
use Rattle.std.proofs.lemmas.List.Folds.{drop_split}
use Rattle.std.proofs.lemmas.Nat.{from_be_bytes-to_be_bytes_4}
use Rattle.net_wire.specs.Protocol.{ip_protocol_number}
use Rattle.net_wire.proofs.ProtocolLemmas.{each_number_is_its_protocol}
use Rattle.ipsec_wire.specs.Ah.{Header, header_len, header_of, header_bytes, IsWhole, IsWritable, IsReadBack, ClearsReserved}
use Rattle.ipsec_wire.proofs.ByteLemmas.{to_be_bytes-be32_at, take-two, regrouped}

pub length-header_bytes : (h : Header) → length (header_bytes h) ≡ 12 + length h.integrity_check_value
unfolding header_bytes
length-header_bytes h = omega arith

-- the length field of a header whose check value has whole words
len_field : (len : ℕ) → len % 4 ≡ 0 → ((12 + len) / 4 - 2 + 2) * 4 ≡ 12 + len
len_field len words = omega arith

pub is_whole : (h : Header) (rest : List ℕ) → IsWritable h → IsWhole (header_bytes h ++ rest)
unfolding header_bytes
is_whole h rest w =
    let field = len_field (length h.integrity_check_value) w.words in
    let all = length-append h.integrity_check_value rest in
    (omega arith, omega arith, omega arith)

pub reads_back : (h : Header) (rest : List ℕ) → IsWritable h → header_of (header_bytes h ++ rest) ≡ h
unfolding header_bytes
reads_back h rest w =
    let field = len_field (length h.integrity_check_value) w.words in
    let len : ((12 + length h.integrity_check_value) / 4 - 2 + 2) * 4 - 12 ≡ length h.integrity_check_value =
    omega arith in
    rw (
      w.named,
      from_be_bytes-to_be_bytes_4 h.security_parameters_index w.index,
      from_be_bytes-to_be_bytes_4 h.sequence_number w.sequence,
      len,
      take-append_seam h.integrity_check_value rest,
    )

pub read_back : IsReadBack
read_back h rest w = (is_whole h rest w, reads_back h rest w)

-- a header whose numbers are written as these bytes
parts : (h : Header) (index sequence : List ℕ) → to_be_bytes w32 h.security_parameters_index ≡ index
    → to_be_bytes w32 h.sequence_number ≡ sequence
    → header_bytes h
    ≡ ip_protocol_number h.next_header ∷ ((12 + length h.integrity_check_value) / 4 - 2) ∷ 0 ∷ 0 ∷ []
    ++ index ++ sequence ++ h.integrity_check_value
unfolding header_bytes
parts h index sequence is_index is_sequence = rw (← is_index, ← is_sequence)

pub clears_reserved : ClearsReserved
clears_reserved bytes all whole =
    let n = header_len bytes in
    let icv = slice_range bytes 12 n in
    let words : length icv ≡ n - 12 = grind (arith, length-take, length-drop) in
    let field : (12 + length icv) / 4 - 2 ≡ slice_index bytes 1 = omega arith in
    let len : length (header_bytes (header_of bytes)) ≡ n =
    omega (arith, length-header_bytes (header_of bytes)) in
    let written = parts (header_of bytes) (slice_range bytes 4 8) (slice_range bytes 8 12)
    (to_be_bytes-be32_at bytes 4 all (omega arith)) (to_be_bytes-be32_at bytes 8 all (omega arith)) in
    let rest : drop 4 bytes ≡ slice_range bytes 4 8 ++ (slice_range bytes 8 12 ++ (icv ++ drop n bytes)) =
    drop_split bytes 4 8 (omega arith)
    ∙ ap (λ part. slice_range bytes 4 8 ++ part) (drop_split bytes 8 12 (omega arith)
    ∙ ap (λ part. slice_range bytes 8 12 ++ part) (drop_split bytes 12 n (omega arith))) in
    rw (len, written, each_number_is_its_protocol (slice_index bytes 0), field, take-two bytes (omega arith))
    (ap (λ part. slice_index bytes 0 ∷ slice_index bytes 1 ∷ 0 ∷ 0 ∷ part)
    (regrouped (slice_range bytes 4 8) (slice_range bytes 8 12) icv (drop n bytes) ∙ sym rest))
