-- Where a part is refused, or bytes end inside one, nothing begins.
use Rattle.std.proofs.Common.{◌≡◌, ℕ, ◌<◌, ⊎_elim, List, ◌++◌, length, take, ap, sym, subst, ◌∙◌, arith, append_assoc, length-append}
use Rattle.std.proofs.Math.Seq.{take-append_seam}
use Rattle.capture_explain.specs.Capture.{IsHeader, CaptureEntry, entry_head, entry_bytes, HasNoHeader, BeginsNoEntry}
use Rattle.capture_explain.specs.Places.{IsInFrame, IsInside, IsWrongHeader, IsWrongLength, NoPartIsRefused}
use Rattle.capture_explain.proofs.CaptureLemmas.{header_length, same_captured, same_behind}

pub wrong_header : (part more : List ℕ) → IsWrongHeader part → HasNoHeader (part ++ more)
wrong_header part more wrong = λ header rest is same.
    let long : length header ≡ 24 = header_length header is in
    let part_is : part ≡ header =
    sym (take-append_seam part more) ∙ ap (λ l. take (length part) l) same
    ∙ ap (λ n. take n (header ++ rest)) (wrong.whole ∙ sym long) ∙ take-append_seam header rest in
    wrong.wrong (subst IsHeader (sym part_is) is)

pub cut_header : (part : List ℕ) → length part < 24 → HasNoHeader part
cut_header part short = λ header rest is same.
    let counted : length part ≡ length (header ++ rest) = ap length same in
    omega (arith, counted, length-append header rest, header_length header is, short)

-- an entry that begins bytes has its numbers there
numbers_of : (entry : CaptureEntry) (part rest : List ℕ) → part ≡ entry_bytes entry ++ rest
    → part ≡ entry_head entry.secs entry.micros (length entry.frame) entry.told ++ (entry.frame ++ rest)
numbers_of entry part rest same =
    same ∙ append_assoc (entry_head entry.secs entry.micros (length entry.frame) entry.told) entry.frame rest

pub wrong_length : (part more : List ℕ) → IsWrongLength part → BeginsNoEntry (part ++ more)
wrong_length part more wrong = λ entry rest fits same.
    let all = ap (λ l. l ++ more) (sym wrong.whole) ∙ numbers_of entry (part ++ more) rest same in
    let captured : wrong.captured ≡ length entry.frame =
    same_captured wrong.secs wrong.micros wrong.captured wrong.told entry.secs entry.micros (length entry.frame) entry.told more
    (entry.frame ++ rest) wrong.fits (omega (arith, fits.captured)) all in
    omega (arith, captured, wrong.wrong, fits.captured)

cut_frame : (part : List ℕ) → IsInFrame part → BeginsNoEntry part
cut_frame part inside = λ entry rest fits same.
    let all = sym inside.whole ∙ numbers_of entry part rest same in
    let captured : inside.captured ≡ length entry.frame =
    same_captured inside.secs inside.micros inside.captured inside.told entry.secs entry.micros (length entry.frame) entry.told inside.front
    (entry.frame ++ rest) (omega (arith, inside.within)) (omega (arith, fits.captured)) all in
    let behind : inside.front ≡ entry.frame ++ rest =
    same_behind inside.secs inside.micros inside.captured inside.told entry.secs entry.micros (length entry.frame) entry.told inside.front
    (entry.frame ++ rest) all in
    omega (arith, captured, inside.short, ap length behind, length-append entry.frame rest)

cut_numbers : (part : List ℕ) → length part < 16 → BeginsNoEntry part
cut_numbers part short = λ entry rest fits same.
    let counted : length part ≡ length (entry_bytes entry ++ rest) = ap length same in
    omega (arith, counted, length-append (entry_bytes entry) rest, short)

pub cut_entry : (part : List ℕ) → IsInside part → BeginsNoEntry part
cut_entry part inside =
    ⊎_elim (λ (short : length part < 16). cut_numbers part short) (λ (frame : IsInFrame part). cut_frame part frame) inside

pub no_part : NoPartIsRefused
no_part = record { wrong_header = wrong_header; cut_header = cut_header; wrong_length = wrong_length; cut_entry = cut_entry }
