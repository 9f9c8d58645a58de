-- The question of a query is read again: what stands behind a name in place makes no difference to it.
use Rattle.std.proofs.Common.{◌≡◌, ℕ, zero, suc, ◌+◌, ◌<◌, ◌≤◌, ◌^◌, Bool, true, false, cond, leb, ltb, eqb, List, [], ◌∷◌, ◌++◌, length, take, drop, Option, Some, option_map, refl, sym, ◌∙◌, ap, arith, append_assoc, length-append}
use Rattle.std.specs.Prelude.{option_and_then}
use Rattle.std.specs.Int.{to_be_bytes, w16}
use Rattle.std.proofs.lemmas.Bool.{cond-true, le-leb, leb-true}
use Rattle.std.proofs.lemmas.List.{take-append-le, drop-append-le, take_at, drop_at}
use Rattle.std.proofs.lemmas.Nat.{from_be_bytes-to_be_bytes_2}
use Rattle.net_wire.specs.DnsName.{NamePiece, AtEnd, AtLabel, AtPointer, AtFault, pointer_at, piece_at, name_len_after, name_len}
use Rattle.net_wire.specs.DnsLabels.{TakesPiece}
use Rattle.net_wire.specs.DnsMessage.{QuestionValue, type_number, type_of_number, message_id, question_behind, question_at, query_bytes}
use Rattle.net_wire.proofs.DnsNameLemmas.{takes_piece, name_len_piece, mapped}

-- a piece with more bytes after it
abbrev behind : List ℕ → NamePiece → NamePiece
behind rest (AtEnd after) = AtEnd (after ++ rest)
behind rest (AtLabel label after) = AtLabel label (after ++ rest)
behind rest (AtPointer target after) = AtPointer target (after ++ rest)
behind rest AtFault = AtFault

abbrev IsPiece : NamePiece → Type 0
IsPiece (AtEnd after) = Unit {0}
IsPiece (AtLabel label after) = Unit {0}
IsPiece (AtPointer target after) = Unit {0}
IsPiece AtFault = ⊥

pointer-behind : (high : ℕ) (after rest : List ℕ) → IsPiece (pointer_at high after) → pointer_at high (after ++ rest) ≡ behind rest (pointer_at high after)
pointer-behind high [] rest there = absurd there
pointer-behind high (low ∷ after) rest there = refl

abbrev label_first : ℕ → List ℕ → NamePiece
label_first len after = cond (leb len (length after)) (AtLabel (take len after) (drop len after)) AtFault

within-behind : (len : ℕ) (after rest : List ℕ) → len ≤ length after → label_first len (after ++ rest) ≡ AtLabel (take len after) (drop len after ++ rest)
within-behind len after rest inside =
    let longer : len ≤ length (after ++ rest) = omega (arith, length-append after rest) in
    cond-true _ _ _ (le-leb len (length (after ++ rest)) longer) ∙ rw (take-append-le len after rest inside, drop-append-le len after rest inside) refl

label-behind : (len : ℕ) (after rest : List ℕ) → IsPiece (label_first len after) → label_first len (after ++ rest) ≡ behind rest (label_first len after)
label-behind len after rest there =
    let P : Bool → Type 0 = λ b. leb len (length after) ≡ b → IsPiece (cond b (AtLabel (take len after) (drop len after)) AtFault)
    → label_first len (after ++ rest) ≡ behind rest (cond b (AtLabel (take len after) (drop len after)) AtFault) in
    let each : (b : Bool) → P b = λ b. elim b as P [
      | true ↦ λ test there. within-behind len after rest (leb-true _ _ test)
      | false ↦ λ test there. absurd there
    ] in
    each (leb len (length after)) refl there

first-behind : (z s u : Bool) (first : ℕ) (after rest : List ℕ)
    → IsPiece (cond z (AtEnd after) (cond s (label_first first after) (cond u AtFault (pointer_at first after))))
    → cond z (AtEnd (after ++ rest)) (cond s (label_first first (after ++ rest)) (cond u AtFault (pointer_at first (after ++ rest))))
    ≡ behind rest (cond z (AtEnd after) (cond s (label_first first after) (cond u AtFault (pointer_at first after))))
first-behind true s u first after rest there = refl
first-behind false true u first after rest there = label-behind first after rest there
first-behind false false true first after rest there = absurd there
first-behind false false false first after rest there = pointer-behind first after rest there

piece-behind : (bytes rest : List ℕ) → IsPiece (piece_at bytes) → piece_at (bytes ++ rest) ≡ behind rest (piece_at bytes)
piece-behind [] rest there = absurd there
piece-behind (first ∷ after) rest there = first-behind (eqb first 0) (ltb first 64) (ltb first 0xC0) first after rest there

piece-there : (f : List ℕ → Option ℕ) (piece : NamePiece) (len : ℕ) → name_len_after f piece ≡ Some len → IsPiece piece
piece-there f (AtEnd after) len e = tt
piece-there f (AtLabel label after) len e = tt
piece-there f (AtPointer target after) len e = tt
piece-there f AtFault len e = let no : ⊥ = cc in no

module _ (name rest : List ℕ)
    (shorter : (r : List ℕ) (len : ℕ) → length r < length name → name_len r ≡ Some len → name_len (r ++ rest) ≡ Some len) where
  len-behind : (piece : NamePiece) (len : ℕ) → TakesPiece (length name) piece → name_len_after name_len piece ≡ Some len
      → name_len_after name_len (behind rest piece) ≡ Some len
  len-behind (AtEnd after) len takes e = e
  len-behind (AtLabel label after) len takes e =
      let found = mapped (λ k. 1 + length label + k) (name_len after) len e in
      ap (option_map (λ k. 1 + length label + k)) (shorter after found.0 (omega arith) found.1) ∙ ap Some found.2
  len-behind (AtPointer target after) len takes e = e
  len-behind AtFault len takes e = let no : ⊥ = cc in absurd no

name_len-within : (n : ℕ) (name rest : List ℕ) (len : ℕ) → length name < n → name_len name ≡ Some len → name_len (name ++ rest) ≡ Some len
name_len-within zero name rest len less e = absurd (omega arith)
name_len-within (suc n) name rest len less e =
    let by_piece : name_len_after name_len (piece_at name) ≡ Some len = sym (name_len_piece name) ∙ e in
    name_len_piece (name ++ rest)
    ∙ ap (name_len_after name_len) (piece-behind name rest (piece-there name_len (piece_at name) len by_piece))
    ∙ len-behind name rest (λ r k fewer is. name_len-within n r rest k (omega arith) is) (piece_at name) len (takes_piece name) by_piece

-- what stands behind a name makes no difference to its length
pub name_len-append : (name rest : List ℕ) (len : ℕ) → name_len name ≡ Some len → name_len (name ++ rest) ≡ Some len
name_len-append name rest len e = name_len-within (suc (length name)) name rest len (omega arith) e

question_at-append : (name rest : List ℕ) → name_len name ≡ Some (length name) → question_at (name ++ rest) ≡ question_behind name rest
question_at-append name rest whole =
    ap (option_and_then (λ len. question_behind (take len (name ++ rest)) (drop len (name ++ rest)))) (name_len-append name rest (length name) whole)
    ∙ rw (take_at name rest (length name) refl, drop_at name rest (length name) refl) refl

question-written : (name : List ℕ) (number : ℕ) → number < 2 ^ 16
    → question_behind name (to_be_bytes w16 number ++ 0 ∷ 1 ∷ []) ≡ Some (record { name = name; type_ = type_of_number number }, [])
question-written name number fits =
    ap (λ n. Some (record { name = name; type_ = type_of_number n }, [])) (from_be_bytes-to_be_bytes_2 number fits)

-- the id and the question of a query
pub query_is_read : (id : ℕ) (question : QuestionValue) → id < 2 ^ 16 → name_len question.name ≡ Some (length question.name)
    → type_number question.type_ < 2 ^ 16 → type_of_number (type_number question.type_) ≡ question.type_
    → (message_id (query_bytes id question) ≡ id) × (question_at (drop 12 (query_bytes id question)) ≡ Some (question, []))
unfolding query_bytes
query_is_read id question small whole fits same = (
  from_be_bytes-to_be_bytes_2 id small,
  ap question_at (append_assoc question.name (to_be_bytes w16 (type_number question.type_)) (0 ∷ 1 ∷ []))
      ∙ question_at-append question.name (to_be_bytes w16 (type_number question.type_) ++ 0 ∷ 1 ∷ []) whole
      ∙ question-written question.name (type_number question.type_) fits
      ∙ ap (λ t. Some (record { name = question.name; type_ = t }, [])) same,
)
