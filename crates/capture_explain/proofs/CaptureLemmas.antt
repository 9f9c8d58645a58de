-- The entries of a file stand where their lengths say.
use Rattle.std.proofs.Common.{◌≡◌, ℕ, ◌^◌, ◌<◌, List, [], ◌∷◌, ◌++◌, length, take, drop, ap, sym, ◌∙◌, arith, append_assoc, length-append}
use Rattle.std.specs.Int.{from_le_bytes, w32}
use Rattle.std.proofs.lemmas.Nat.{from_le_bytes-to_le_bytes_4}
use Rattle.std.proofs.Math.Seq.{drop-append_seam, take-append_seam}
use Rattle.capture_explain.specs.Capture.{header_front, header_end, IsHeader, CaptureEntry, entry_head, entry_bytes, IsEntry, AreEntries, entries_bytes, IsFront, IsCaptureFile, HasNoHeader, BeginsNoEntry, IsBrokenAt, IsOverLimit}

-- a header has 24 bytes
pub header_length : (header : List ℕ) → IsHeader header → length header ≡ 24
header_length header is =
    omega (arith, ap length is.whole, length-append (header_front ++ is.middle) header_end, is.twelve)

-- equal numbers have one captured length
pub same_captured : (a b c d x y z w : ℕ) (behind other : List ℕ) → c < 2 ^ 32 → z < 2 ^ 32
    → entry_head a b c d ++ behind ≡ entry_head x y z w ++ other → c ≡ z
same_captured a b c d x y z w behind other fits also same =
    sym (from_le_bytes-to_le_bytes_4 c fits) ∙ ap (λ l. from_le_bytes w32 (take 4 (drop 8 l))) same
    ∙ from_le_bytes-to_le_bytes_4 z also

-- and what stands behind them is the same
pub same_behind : (a b c d x y z w : ℕ) (behind other : List ℕ)
    → entry_head a b c d ++ behind ≡ entry_head x y z w ++ other → behind ≡ other
same_behind a b c d x y z w behind other same = ap (drop 16) same

-- the same bytes behind pieces of one length
pub same_rest : (front begin rest more : List ℕ) → length front ≡ length begin → front ++ rest ≡ begin ++ more → rest ≡ more
same_rest front begin rest more as_long same =
    sym (drop-append_seam front rest) ∙ ap (λ l. drop (length front) l) same ∙ ap (λ n. drop n (begin ++ more)) as_long
    ∙ drop-append_seam begin more

-- two entries that begin the same bytes end at one place
pub one_rest : (entry other : CaptureEntry) (rest more : List ℕ) → IsEntry entry → IsEntry other
    → entry_bytes entry ++ rest ≡ entry_bytes other ++ more → rest ≡ more
one_rest entry other rest more fits also same =
    let head = entry_head entry.secs entry.micros (length entry.frame) entry.told in
    let heads = entry_head other.secs other.micros (length other.frame) other.told in
    let all : head ++ (entry.frame ++ rest) ≡ heads ++ (other.frame ++ more) =
    sym (append_assoc head entry.frame rest) ∙ same ∙ append_assoc heads other.frame more in
    let as_long : length entry.frame ≡ length other.frame =
    same_captured entry.secs entry.micros (length entry.frame) entry.told other.secs other.micros (length other.frame) other.told
    (entry.frame ++ rest) (other.frame ++ more) (omega (arith, fits.captured)) (omega (arith, also.captured)) all in
    same_rest entry.frame other.frame rest more as_long
    (same_behind entry.secs entry.micros (length entry.frame) entry.told other.secs other.micros (length other.frame) other.told
    (entry.frame ++ rest) (other.frame ++ more) all)

-- the number at a place of the same bytes
same_number : (at a b : ℕ) (one other : List ℕ) → a < 2 ^ 32 → b < 2 ^ 32 → one ≡ other
    → from_le_bytes w32 (take 4 (drop at one)) ≡ a → from_le_bytes w32 (take 4 (drop at other)) ≡ b → a ≡ b
same_number at a b one other fits also same is_a is_b = sym is_a ∙ ap (λ l. from_le_bytes w32 (take 4 (drop at l))) same ∙ is_b

-- two entries that begin the same bytes are one
pub one_entry : (entry other : CaptureEntry) (rest more : List ℕ) → IsEntry entry → IsEntry other
    → entry_bytes entry ++ rest ≡ entry_bytes other ++ more → entry ≡ other
one_entry entry other rest more fits also same =
    let head = entry_head entry.secs entry.micros (length entry.frame) entry.told in
    let heads = entry_head other.secs other.micros (length other.frame) other.told in
    let all : head ++ (entry.frame ++ rest) ≡ heads ++ (other.frame ++ more) =
    sym (append_assoc head entry.frame rest) ∙ same ∙ append_assoc heads other.frame more in
    let secs_are : entry.secs ≡ other.secs = same_number 0 entry.secs other.secs _ _ fits.secs_fit also.secs_fit all
    (from_le_bytes-to_le_bytes_4 entry.secs fits.secs_fit) (from_le_bytes-to_le_bytes_4 other.secs also.secs_fit) in
    let micros_are : entry.micros ≡ other.micros = same_number 4 entry.micros other.micros _ _ fits.micros_fit also.micros_fit all
    (from_le_bytes-to_le_bytes_4 entry.micros fits.micros_fit) (from_le_bytes-to_le_bytes_4 other.micros also.micros_fit) in
    let told_are : entry.told ≡ other.told = same_number 12 entry.told other.told _ _ fits.told_fits also.told_fits all
    (from_le_bytes-to_le_bytes_4 entry.told fits.told_fits) (from_le_bytes-to_le_bytes_4 other.told also.told_fits) in
    let as_long : length entry.frame ≡ length other.frame =
    same_captured entry.secs entry.micros (length entry.frame) entry.told other.secs other.micros (length other.frame) other.told
    (entry.frame ++ rest) (other.frame ++ more) (omega (arith, fits.captured)) (omega (arith, also.captured)) all in
    let behind : entry.frame ++ rest ≡ other.frame ++ more =
    same_behind entry.secs entry.micros (length entry.frame) entry.told other.secs other.micros (length other.frame) other.told
    (entry.frame ++ rest) (other.frame ++ more) all in
    let frames_are : entry.frame ≡ other.frame =
    sym (take-append_seam entry.frame rest) ∙ ap (λ l. take (length entry.frame) l) behind
    ∙ ap (λ n. take n (other.frame ++ more)) as_long ∙ take-append_seam other.frame more in
    ap (λ (n : ℕ). record entry { secs = n }) secs_are
    ∙ ap (λ (n : ℕ). record entry { secs = other.secs; micros = n }) micros_are
    ∙ ap (λ (n : ℕ). record entry { secs = other.secs; micros = other.micros; told = n }) told_are
    ∙ ap (λ (l : List ℕ). record other { frame = l }) frames_are

-- bytes that are entries alone go past other entries that they begin with: more of them, and one stands there
pub record GoesPast (entries others : List CaptureEntry) (more : List ℕ) : Type 0 where
  pub fewer : length others < length entries
  pub begins : BeginsNoEntry more → ⊥

pub goes_past : (entries others : List CaptureEntry) (more : List ℕ) → AreEntries entries → AreEntries others
    → entries_bytes entries ≡ entries_bytes others ++ more → 0 < length more → GoesPast entries others more
goes_past [] [] more fit also same some = absurd (omega (arith, ap length same, some))
goes_past [] (other ∷ others) more fit also same some = absurd (omega (arith, ap length same))
goes_past (entry ∷ entries) [] more fit also same some = record {
  fewer = omega arith;
  begins = λ none. none entry (entries_bytes entries) fit.0 (sym same);
}
goes_past (entry ∷ entries) (other ∷ others) more fit also same some =
    let rest : entries_bytes entries ≡ entries_bytes others ++ more =
    one_rest entry other (entries_bytes entries) (entries_bytes others ++ more) fit.0 also.0
    (same ∙ append_assoc (entry_bytes other) (entries_bytes others) more) in
    let next : GoesPast entries others more = goes_past entries others more fit.1 also.1 rest some in
    record { fewer = omega (arith, next.fewer); begins = next.begins }

-- the same of files
pub file_goes_past : (entries others : List CaptureEntry) (bytes front more : List ℕ) → IsFront entries bytes
    → IsFront others front → bytes ≡ front ++ more → 0 < length more → GoesPast entries others more
file_goes_past entries others bytes front more is also whole some =
    let all : is.header ++ entries_bytes entries ≡ also.header ++ (entries_bytes others ++ more) =
    sym is.whole ∙ whole ∙ ap (λ l. l ++ more) also.whole ∙ append_assoc also.header (entries_bytes others) more in
    let as_long : length is.header ≡ length also.header =
    header_length is.header is.is_header ∙ sym (header_length also.header also.is_header) in
    goes_past entries others more is.fit also.fit
    (same_rest is.header also.header (entries_bytes entries) (entries_bytes others ++ more) as_long all) some

-- a file is neither without header, nor broken, nor over the limit
pub has_header : (max : ℕ) (bytes : List ℕ) (entries : List CaptureEntry) → IsCaptureFile max bytes entries → HasNoHeader bytes → ⊥
has_header max bytes entries file none =
    none file.is_front.header (entries_bytes entries) file.is_front.is_header file.is_front.whole

pub not_broken : (max : ℕ) (bytes : List ℕ) (offset : ℕ) (entries : List CaptureEntry) → IsCaptureFile max bytes entries
    → IsBrokenAt max bytes offset → ⊥
not_broken max bytes offset entries file broken =
    let past = file_goes_past entries broken.entries bytes broken.front broken.more file.is_front broken.is_front broken.whole
    broken.goes_on in
    past.begins broken.no_entry

pub not_over : (max : ℕ) (bytes : List ℕ) (entries : List CaptureEntry) → IsCaptureFile max bytes entries
    → IsOverLimit max bytes → ⊥
not_over max bytes entries file over =
    let past = file_goes_past entries over.entries bytes over.front over.more file.is_front over.is_front over.whole
    over.goes_on in
    omega (arith, past.fewer, over.full, file.few)
