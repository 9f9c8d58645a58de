-- The entries of a capture, one after another.
use Rattle.std.proofs.Common.{◌≡◌, ℕ, ◌+◌, ◌<◌, ◌≤◌, ◌==◌, inr, Bool, true, false, List, [], ◌∷◌, ◌++◌, length, Option, Some, None, IfSome, ap, sym, subst, ◌∙◌, refl, arith, append_assoc, append-nil, length-append}
use Rattle.std.specs.Io.KnownBytes.{Consumes, IsAtEnd}
use Rattle.std.proofs.KnownBytes.{Consumes-trans}
use Rattle.std.proofs.lemmas.Bool.{eqb-true}
use Rattle.std.proofs.lemmas.Bool.Decides.{nat_tests}
use Rattle.capture_explain.specs.Capture.{CaptureEntry, entry_bytes, IsHeader, IsEntry, AreEntries, entries_bytes, IsFront, IsCaptureFile}
use Rattle.capture_explain.specs.Reading.{CutsEntry}
use Rattle.capture_explain.specs.Rows.{IsRowOf, AreRowsOf}
use Rattle.capture_explain.specs.Explained.{ReadsWhole, Taken, LacksLast, Stops}
use Rattle.capture_explain.specs.declared.error.ExplainError.{ExplainError}
use Rattle.capture_explain.specs.declared.error.ExplainError.TheVariants.{Header, Entry, Limit, Read, NoMemory}
use Rattle.capture_explain.specs.declared.explanation.ExplainRow.{ExplainRow}
use Rattle.capture_explain.proofs.CaptureLemmas.{header_length}

-- what stands before an entry is read: the header and some entries, of which this was told
pub record Progress (left_old left_now : Option (List ℕ)) (offset count : ℕ) (Tells : List CaptureEntry → Type 0) : Type 0 where
  pub entries : List CaptureEntry
  pub front : List ℕ
  pub is_front : IsFront entries front
  pub counted : length entries ≡ count
  pub placed : length front ≡ offset
  pub tells : Tells entries
  pub took : Consumes left_old left_now front

-- before the first entry
pub starts : (left_old left_now : Option (List ℕ)) (header : List ℕ) (Tells : List CaptureEntry → Type 0) → IsHeader header
    → Consumes left_old left_now header → Tells [] → Progress left_old left_now 24 0 Tells
starts left_old left_now header Tells is took none = record {
  entries = [];
  front = header;
  is_front = record { header = header; is_header = is; fit = tt; whole = sym (append-nil header) };
  counted = refl;
  placed = header_length header is;
  tells = none;
  took = took;
}

-- one entry more
entries_push : (entries : List CaptureEntry) (entry : CaptureEntry) → entries_bytes (entries ++ entry ∷ []) ≡ entries_bytes entries ++ entry_bytes entry
entries_push [] entry = append-nil (entry_bytes entry)
entries_push (first ∷ entries) entry =
    ap (λ l. entry_bytes first ++ l) (entries_push entries entry)
    ∙ sym (append_assoc (entry_bytes first) (entries_bytes entries) (entry_bytes entry))

fit_push : (entries : List CaptureEntry) (entry : CaptureEntry) → AreEntries entries → IsEntry entry → AreEntries (entries ++ entry ∷ [])
fit_push [] entry fit fits = (fits, tt)
fit_push (first ∷ entries) entry fit fits = (fit.0, fit_push entries entry fit.1 fits)

pub rows_push : (entries : List CaptureEntry) (entry : CaptureEntry) (rows : List ExplainRow) (row : ExplainRow) → AreRowsOf entries rows
    → IsRowOf entry row → AreRowsOf (entries ++ entry ∷ []) (rows ++ row ∷ [])
rows_push [] entry [] row are is = (is, refl)
rows_push [] entry (first ∷ rows) row are is = cc
rows_push (one ∷ entries) entry [] row are is = absurd are
rows_push (one ∷ entries) entry (first ∷ rows) row are is = (are.0, rows_push entries entry rows row are.1 is)

front_push : (entries : List CaptureEntry) (entry : CaptureEntry) (front : List ℕ) → IsFront entries front → IsEntry entry
    → IsFront (entries ++ entry ∷ []) (front ++ entry_bytes entry)
front_push entries entry front is fits = record {
  header = is.header;
  is_header = is.is_header;
  fit = fit_push entries entry is.fit fits;
  whole = ap (λ l. l ++ entry_bytes entry) is.whole ∙ append_assoc is.header (entries_bytes entries) (entry_bytes entry)
      ∙ ap (λ l. is.header ++ l) (sym (entries_push entries entry));
}

pub goes_on : (left_old left_now left_new : Option (List ℕ)) (offset next count : ℕ) (Tells More : List CaptureEntry → Type 0)
    (entry : CaptureEntry) → Progress left_old left_now offset count Tells → IsEntry entry → Consumes left_now left_new (entry_bytes entry)
    → ((entries : List CaptureEntry) → length entries ≡ count → Tells entries → More (entries ++ entry ∷ []))
    → next ≡ offset + (16 + length entry.frame) → Progress left_old left_new next (count + 1) More
goes_on left_old left_now left_new offset next count Tells More entry progress fits took told moved = record {
  entries = progress.entries ++ entry ∷ [];
  front = progress.front ++ entry_bytes entry;
  is_front = front_push progress.entries entry progress.front progress.is_front fits;
  counted = omega (arith, length-append progress.entries (entry ∷ []), progress.counted);
  placed = omega (arith, length-append progress.front (entry_bytes entry), progress.placed, moved);
  tells = told progress.entries progress.counted progress.tells;
  took = Consumes-trans left_old left_now left_new progress.front (entry_bytes entry) progress.took took;
}

-- a row more of an explanation
pub row_told : (rows more : List ExplainRow) (entry : CaptureEntry) (row : ExplainRow) (entries : List CaptureEntry)
    → IsRowOf entry row → more ≡ rows ++ row ∷ [] → AreRowsOf entries rows → AreRowsOf (entries ++ entry ∷ []) more
row_told rows more entry row entries is added are =
    subst (λ l. AreRowsOf (entries ++ entry ∷ []) l) (sym added) (rows_push entries entry rows row are is)

-- it was the last one
ends_file : (left_old left_now : Option (List ℕ)) (max : ℕ) (entries : List CaptureEntry) (front : List ℕ) → Consumes left_old left_now front
    → IsAtEnd left_now → IsFront entries front → length entries ≤ max → IfSome left_old (λ bytes. IsCaptureFile max bytes entries)
ends_file None left_now max entries front took at_end is few = tt
ends_file (Some bytes) None max entries front took at_end is few = absurd took
ends_file (Some bytes) (Some more) max entries front took at_end is few =
    let all : bytes ≡ front = took ∙ ap (λ l. front ++ l) at_end ∙ append-nil front in
    record { is_front = subst (λ l. IsFront entries l) (sym all) is; few = few }

pub finishes : (left_old left_now left_new : Option (List ℕ)) (max offset count : ℕ) (Tells : List CaptureEntry → Type 0)
    → Progress left_old left_now offset count Tells → count ≤ max → IsAtEnd left_now → IsAtEnd left_new
    → ReadsWhole max left_old left_new Tells
finishes left_old left_now left_new max offset count Tells progress within was_at_end at_end = record {
  entries = progress.entries;
  file = ends_file left_old left_now max progress.entries progress.front progress.took was_at_end progress.is_front
      (omega (arith, progress.counted, within));
  few = omega (arith, progress.counted, within);
  tells = progress.tells;
  ended = at_end;
}

-- what was taken with a part behind the entries
unfoldable taken_with : (left_old left_now left_new : Option (List ℕ)) (max offset count : ℕ) (Tells : List CaptureEntry → Type 0) (part : List ℕ)
    → Progress left_old left_now offset count Tells → count ≤ max → Consumes left_now left_new part → Taken max left_old left_new Tells
taken_with left_old left_now left_new max offset count Tells part progress within took = record {
  entries = progress.entries;
  front = progress.front;
  part = part;
  is_front = progress.is_front;
  few = omega (arith, progress.counted, within);
  tells = progress.tells;
  took = Consumes-trans left_old left_now left_new progress.front part progress.took took;
}

-- no entry was read
pub stops : (left_old left_now left_new : Option (List ℕ)) (max offset count : ℕ) (Tells : List CaptureEntry → Type 0) (error : ExplainError) (is_full : Bool)
    → Progress left_old left_now offset count Tells → count ≤ max → (is_full ≡ false → count < max) → (is_full ≡ true → count ≡ max)
    → CutsEntry error is_full left_now left_new → ((o : ℕ) → error ≡ Entry o → (o ≡ offset) × (is_full ≡ false))
    → (error ≡ Limit → is_full ≡ true) → Stops max left_old left_new Tells error
unfolding taken_with
stops left_old left_now left_new max offset count Tells Header is_full progress within few full cuts told limit = absurd cuts.ends
stops left_old left_now left_new max offset count Tells (Entry o) is_full progress within few full cuts told limit =
    let here = told o refl in
    record {
      taken = taken_with left_old left_now left_new max offset count Tells cuts.part progress within cuts.took;
      ends = (omega (arith, progress.counted, few here.1), here.0 ∙ sym progress.placed, cuts.ends);
    }
stops left_old left_now left_new max offset count Tells Limit is_full progress within few full cuts told limit = record {
  taken = taken_with left_old left_now left_new max offset count Tells cuts.part progress within cuts.took;
  ends = (progress.counted ∙ full (limit refl), cuts.ends);
}
stops left_old left_now left_new max offset count Tells Read is_full progress within few full cuts told limit = inr (record {
  taken = taken_with left_old left_now left_new max offset count Tells cuts.part progress within cuts.took;
  ends = ((λ some. omega (arith, progress.counted, few (cuts.tried refl some))), cuts.ends);
})
stops left_old left_now left_new max offset count Tells NoMemory is_full progress within few full cuts told limit = absurd cuts.ends

-- of the entry that was read nothing is told
pub lacks : (left_old left_now left_new : Option (List ℕ)) (max offset count : ℕ) (Tells More : List CaptureEntry → Type 0)
    (entry : CaptureEntry) → Progress left_old left_now offset count Tells → count < max → IsEntry entry
    → Consumes left_now left_new (entry_bytes entry) → ((entries : List CaptureEntry) → Tells entries → More entries)
    → LacksLast max left_old left_new More
lacks left_old left_now left_new max offset count Tells More entry progress few fits took same = record {
  entries = progress.entries;
  front = progress.front;
  entry = entry;
  is_front = progress.is_front;
  few = omega (arith, progress.counted, few);
  fits = fits;
  tells = same progress.entries progress.tells;
  took = Consumes-trans left_old left_now left_new progress.front (entry_bytes entry) progress.took took;
}

-- a place in the loop, by the test for the last one
pub still_below : (count max : ℕ) → count ≤ max → (count == max) ≡ false → count < max
still_below count max within other = grind (arith, nat_tests, other)

pub at_limit : (count max : ℕ) → (count == max) ≡ true → count ≡ max
at_limit count max same = eqb-true count max same
