-- Entries that are frames of a script stand where their lengths say.
use Rattle.std.proofs.Common.{◌≡◌, ℕ, ◌<◌, List, [], ◌∷◌, ◌++◌, length, ap, sym, subst, ◌∙◌, arith, append_assoc}
use Rattle.capture_explain.specs.Capture.{CaptureEntry, entry_bytes, entries_bytes, BeginsNoEntry}
use Rattle.capture_explain.proofs.CaptureLemmas.{header_length, same_rest, one_rest, one_entry}
use Rattle.script_text.specs.CapturedFrames.{IsNextEntry, AreInOrder, entry_micros, last_time, IsFront, IsFile, BeginsNoNext, IsBrokenAt, IsOverLimit}
use Rattle.script_text.specs.ShownFrames.{IsRefusedEntry}

-- where no entry begins, none begins that may come next
pub no_next : (last : ℕ) (bytes : List ℕ) → BeginsNoEntry bytes → BeginsNoNext last bytes
no_next last bytes none = λ entry rest next is. none entry rest next.fits is

-- nor behind one that may not
pub refused_next : (last : ℕ) (part more : List ℕ) → IsRefusedEntry last part → BeginsNoNext last (part ++ more)
refused_next last part more refused = λ entry rest next is.
    let same = one_entry refused.entry entry more rest refused.fits next.fits (ap (λ l. l ++ more) (sym refused.whole) ∙ is) in
    refused.wrong (subst (λ (e : CaptureEntry). IsNextEntry last e) (sym same) next)

-- bytes that are entries alone go past other entries that they begin with: more of them, and one stands there
pub record GoesPast (last : ℕ) (entries others : List CaptureEntry) (more : List ℕ) : Type 0 where
  pub fewer : length others < length entries
  pub begins : BeginsNoNext (last_time last others) more → ⊥

goes_past : (last : ℕ) (entries others : List CaptureEntry) (more : List ℕ) → AreInOrder last entries → AreInOrder last others
    → entries_bytes entries ≡ entries_bytes others ++ more → 0 < length more → GoesPast last entries others more
goes_past last [] [] more fit also same some = absurd (omega (arith, ap length same, some))
goes_past last [] (other ∷ others) more fit also same some = absurd (omega (arith, ap length same))
goes_past last (entry ∷ entries) [] more fit also same some = record {
  fewer = omega arith;
  begins = λ none. none entry (entries_bytes entries) fit.0 (sym same);
}
goes_past last (entry ∷ entries) (other ∷ others) more fit also same some =
    let all : entry_bytes entry ++ entries_bytes entries ≡ entry_bytes other ++ (entries_bytes others ++ more) =
    same ∙ append_assoc (entry_bytes other) (entries_bytes others) more in
    let rest : entries_bytes entries ≡ entries_bytes others ++ more =
    one_rest entry other (entries_bytes entries) (entries_bytes others ++ more) fit.0.fits also.0.fits all in
    let is = one_entry entry other (entries_bytes entries) (entries_bytes others ++ more) fit.0.fits also.0.fits all in
    let next : GoesPast (entry_micros other) entries others more =
    goes_past (entry_micros other) entries others more
    (subst (λ (e : CaptureEntry). AreInOrder (entry_micros e) entries) is fit.1) also.1 rest some in
    record { fewer = omega (arith, next.fewer); begins = next.begins }

file_goes_past : (entries others : List CaptureEntry) (bytes front more : List ℕ) → IsFront entries bytes
    → IsFront others front → bytes ≡ front ++ more → 0 < length more → GoesPast 0 entries others more
file_goes_past entries others bytes front more is also whole some =
    let all : is.header ++ entries_bytes entries ≡ also.header ++ (entries_bytes others ++ more) =
    sym is.whole ∙ whole ∙ ap (λ l. l ++ more) also.whole ∙ append_assoc also.header (entries_bytes others) more in
    let as_long : length is.header ≡ length also.header =
    header_length is.header is.is_header ∙ sym (header_length also.header also.is_header) in
    goes_past 0 entries others more is.in_order also.in_order
    (same_rest is.header also.header (entries_bytes entries) (entries_bytes others ++ more) as_long all) some

-- a file is neither broken nor over the limit
pub not_broken : (max : ℕ) (bytes : List ℕ) (offset : ℕ) (entries : List CaptureEntry) → IsFile max bytes entries
    → IsBrokenAt max bytes offset → ⊥
not_broken max bytes offset entries file broken =
    let past = file_goes_past entries broken.entries bytes broken.front broken.more file.is_front broken.is_front broken.whole
    broken.goes_on in
    past.begins broken.no_entry

pub not_over : (max : ℕ) (bytes : List ℕ) (entries : List CaptureEntry) → IsFile max bytes entries → IsOverLimit max bytes → ⊥
not_over max bytes entries file over =
    let past = file_goes_past entries over.entries bytes over.front over.more file.is_front over.is_front over.whole
    over.goes_on in
    omega (arith, past.fewer, over.full, file.few)
