-- Parts of a packet whose windows reach to the last byte of the frame, and lists of few bytes.
use Rattle.std.proofs.Common.{◌≡◌, ℕ, ◌+◌, ◌-◌, ◌≤◌, List, [], ◌∷◌, ◌++◌, length, take, drop, Option, None, refl, arith, length-append}
use Rattle.std.specs.Prelude.{slice_range}
use Rattle.std.proofs.lemmas.List.{take_all}
use Rattle.std.proofs.Math.Seq.{drop-append_seam, take-append_seam}
use Rattle.ether_link.specs.Form.{header_len, refusal}
use Rattle.ether_link.specs.Layout.{Grammar, header, window_end, place_of, IsLayoutFrom}
use Rattle.ether_link.specs.declared.layout.Place.{Place}
use Rattle.ether_link.specs.declared.layout.Stop.{Stop}
use Rattle.ether_link.specs.declared.layout.Turn.{Turn}

-- what is behind the first bytes, and the bytes in between
pub rest_of : (before rest : List ℕ) (n : ℕ) → length before ≡ n → slice_range (before ++ rest) n (length (before ++ rest)) ≡ rest
rest_of before rest n len =
    let moved = drop-append_seam before rest in
    let dropped : drop n (before ++ rest) ≡ rest = rw len at moved in
    let enough : length rest ≤ length (before ++ rest) - n = omega (arith, length-append before rest) in
    rw dropped (take_all (length (before ++ rest) - n) rest enough)

pub front_of : (before rest : List ℕ) (n : ℕ) → length before ≡ n → take n (before ++ rest) ≡ before
front_of before rest n len = let taken = take-append_seam before rest in rw len at taken

pub between_of : (before bytes rest : List ℕ) (start end : ℕ) → length before ≡ start → start + length bytes ≡ end
    → slice_range (before ++ (bytes ++ rest)) start end ≡ bytes
between_of before bytes rest start end starts ends =
    let moved = drop-append_seam before (bytes ++ rest) in
    let dropped : drop start (before ++ (bytes ++ rest)) ≡ bytes ++ rest = rw starts at moved in
    rw dropped (front_of bytes rest (end - start) (omega arith))

-- one part in a window that reaches to the last byte, and those behind it
pub one_part : {E : Type 0} (grammar : Grammar E) (frame : List ℕ) (turn : Turn) (start body end : ℕ) (bytes : List ℕ) (next : Option Turn)
    (places : List Place) (stop : Option (Stop E)) (len : ℕ)
    → slice_range frame start (length frame) ≡ bytes → refusal (grammar.form_of turn.kind) bytes ≡ None
    → header_len (grammar.form_of turn.kind) bytes ≡ len → start + len ≡ body
    → window_end start (length frame) (grammar.announced turn.kind (take len bytes)) ≡ end
    → grammar.next turn (take len bytes) ≡ next
    → IsLayoutFrom grammar frame next body end places stop
    → IsLayoutFrom grammar frame (Option.Some turn) start (length frame)
    (record { kind = turn.kind; start = start; body = body; end = end } ∷ places) stop
one_part grammar frame turn start body end bytes next places stop len is accepted has_len ends window goes_on behind =
    let place : Place = record { kind = turn.kind; start = start; body = body; end = end } in
    let same : place ≡ place_of grammar turn.kind bytes start (length frame) = rw (has_len, ends, window) refl in
    let rest : IsLayoutFrom grammar frame (grammar.next turn (header grammar turn.kind bytes)) body end places stop = rw (has_len, goes_on) behind in
    rw is (accepted, same, rest)

-- lists of four and of six bytes
pub by_four : (P : List ℕ → Type 0) → ((a b c d : ℕ) → P (a ∷ b ∷ c ∷ d ∷ [])) → (bytes : List ℕ) → length bytes ≡ 4 → P bytes
by_four P holds (a ∷ b ∷ c ∷ d ∷ []) is = holds a b c d
by_four P holds [] is = absurd (omega arith)
by_four P holds (a ∷ []) is = absurd (omega arith)
by_four P holds (a ∷ b ∷ []) is = absurd (omega arith)
by_four P holds (a ∷ b ∷ c ∷ []) is = absurd (omega arith)
by_four P holds (a ∷ b ∷ c ∷ d ∷ e ∷ more) is = absurd (omega arith)

pub by_six : (P : List ℕ → Type 0) → ((a b c d e f : ℕ) → P (a ∷ b ∷ c ∷ d ∷ e ∷ f ∷ [])) → (bytes : List ℕ) → length bytes ≡ 6 → P bytes
by_six P holds [] is = absurd (omega arith)
by_six P holds (a ∷ []) is = absurd (omega arith)
by_six P holds (a ∷ b ∷ more) is =
    by_four (λ behind. P (a ∷ b ∷ behind)) (λ c d e f. holds a b c d e f) more (omega arith)
