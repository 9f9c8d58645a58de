-- Some bytes are one file, and its entries have one list of rows.
use Rattle.std.proofs.Common.{◌≡◌, ℕ, ◌<◌, ◌≤◌, ◌⊎◌, inl, inr, Bool, true, false, List, [], ◌∷◌, length, Option, ap, ap₂, sym, subst, ◌∙◌, refl, arith}
use Rattle.std.specs.Prelude.{◌↔◌, IsTrue}
use Rattle.std.proofs.lemmas.Bool.{cases_lt}
use Rattle.ether_link.specs.declared.err.layers.Layer.{Layer}
use Rattle.ether_link.specs.declared.layout.PartKind.TheVariants.{Ethernet2}
use Rattle.ether_link.specs.declared.layout.Place.{Place}
use Rattle.ether_link.specs.declared.layout.Stop.{Stop}
use Rattle.ether_link.proofs.LayoutLemmas.{one}
use Rattle.ether_ip.specs.PacketGrammar.{packet_grammar}
use Rattle.ether_ip.specs.declared.err.packet.SliceError.{SliceError}
use Rattle.ether_lax.specs.Found.{parts_of}
use Rattle.ether_lax.specs.Notes.{stop_layer}
use Rattle.ether_lax.specs.Sliced.{net_of}
use Rattle.ether_lax.specs.Steps.{begins_with}
use Rattle.capture_explain.specs.Capture.{CaptureEntry, AreEntries, entries_bytes, IsCaptureFile}
use Rattle.capture_explain.specs.Dissected.{Agrees, IsDissection}
use Rattle.capture_explain.specs.Laws.{AreOneFile}
use Rattle.capture_explain.specs.Parts.{parts_at, ah_at, esp_by}
use Rattle.capture_explain.specs.Rows.{IsRowOf, AreRowsOf, dissection_of}
use Rattle.capture_explain.specs.declared.dissecting.Dissection.{Dissection}
use Rattle.capture_explain.specs.declared.parts.AhPart.{AhPart}
use Rattle.capture_explain.specs.declared.parts.EspPart.{EspPart}
use Rattle.capture_explain.specs.declared.parts.Part.{Part}
use Rattle.capture_explain.specs.declared.explanation.ExplainRow.{ExplainRow}
use Rattle.capture_explain.proofs.CaptureLemmas.{header_length, same_rest, one_rest, one_entry}

one_list : (some others : List CaptureEntry) → AreEntries some → AreEntries others → entries_bytes some ≡ entries_bytes others → some ≡ others
one_list [] [] fit also same = refl
one_list [] (other ∷ others) fit also same = absurd (omega (arith, ap length same))
one_list (entry ∷ some) [] fit also same = absurd (omega (arith, ap length same))
one_list (entry ∷ some) (other ∷ others) fit also same =
    ap₂ (λ (e : CaptureEntry) (es : List CaptureEntry). e ∷ es)
    (one_entry entry other (entries_bytes some) (entries_bytes others) fit.0 also.0 same)
    (one_list some others fit.1 also.1 (one_rest entry other (entries_bytes some) (entries_bytes others) fit.0 also.0 same))

one_file : (max other : ℕ) (bytes : List ℕ) (some others : List CaptureEntry)
    → IsCaptureFile max bytes some → IsCaptureFile other bytes others → some ≡ others
one_file max other bytes some others file also =
    let is = file.is_front in
    let at = also.is_front in
    let as_long : length is.header ≡ length at.header =
    header_length is.header is.is_header ∙ sym (header_length at.header at.is_header) in
    one_list some others is.fit at.fit
    (same_rest is.header at.header (entries_bytes some) (entries_bytes others) as_long (sym is.whole ∙ at.whole))

-- a test of one fact has one answer
one_test : (a b : Bool) (P : Type 0) → (IsTrue a ↔ P) → (IsTrue b ↔ P) → a ≡ b
one_test true true P is also = refl
one_test false false P is also = refl
one_test true false P is also = sym (also.1 (is.0 refl))
one_test false true P is also = is.1 (also.0 refl)

agree_once : (n : ℕ) (a b : Bool) (P : Type 0) → (n < 14 → a ≡ true) × (14 ≤ n → (IsTrue a ↔ P))
    → (n < 14 → b ≡ true) × (14 ≤ n → (IsTrue b ↔ P)) → (n < 14) ⊎ (14 ≤ n) → a ≡ b
agree_once n a b P is also (inl short) = is.0 short ∙ sym (also.0 short)
agree_once n a b P is also (inr long) = one_test a b P (is.1 long) (also.1 long)

-- equal fields are one dissection
same_fields : (some other : Dissection) → some.parts ≡ other.parts → some.stop ≡ other.stop → some.agree ≡ other.agree
    → some.ah ≡ other.ah → some.esp ≡ other.esp → some ≡ other
same_fields some other parts stop agree ah esp =
    ap (λ (l : List Part). record some { parts = l }) parts
    ∙ ap (λ (s : Option Layer). record some { parts = other.parts; stop = s }) stop
    ∙ ap (λ (b : Bool). record some { parts = other.parts; stop = other.stop; agree = b }) agree
    ∙ ap (λ (l : List AhPart). record some { parts = other.parts; stop = other.stop; agree = other.agree; ah = l }) ah
    ∙ ap (λ (e : Option EspPart). record other { esp = e }) esp

-- a frame has one dissection
one_dissection : (frame : List ℕ) (one_of other : Dissection) → (length frame < 14) ⊎ (14 ≤ length frame) → IsDissection frame one_of
    → IsDissection frame other → one_of ≡ other
one_dissection frame one_of other size is also =
    let same = one packet_grammar frame (begins_with Ethernet2) 0 (length frame) also.places is.places also.stop is.stop also.layout is.layout in
    let parts : one_of.parts ≡ other.parts = is.parts_are ∙ sym (also.parts_are ∙ ap (parts_at frame) same.0) in
    let stop : one_of.stop ≡ other.stop = is.stop_is ∙ sym (also.stop_is ∙ ap stop_layer same.1) in
    let ah : one_of.ah ≡ other.ah = is.ah_are ∙ sym (also.ah_are ∙ ap (ah_at frame) same.0) in
    let esp : one_of.esp ≡ other.esp = is.esp_is ∙ sym (also.esp_is
    ∙ ap₂ (λ (ps : List Place) (s : Option (Stop SliceError)). esp_by s (net_of frame (parts_of frame ps))) same.0 same.1) in
    let agreed : Agrees frame is.places is.stop other.agree =
    subst (λ (s : Option (Stop SliceError)). Agrees frame is.places s other.agree) same.1
    (subst (λ (ps : List Place). Agrees frame ps also.stop other.agree) same.0 also.agree_is) in
    let agree : one_of.agree ≡ other.agree = agree_once (length frame) one_of.agree other.agree _ is.agree_is agreed size in
    same_fields one_of other parts stop agree ah esp

-- a row with another dissection
abbrev with_dissection : ExplainRow → Dissection → ExplainRow
with_dissection row d = record row { parts = d.parts; stop = d.stop; agree = d.agree; ah = d.ah; esp = d.esp }

-- an entry has one row
one_row : (entry : CaptureEntry) (row other : ExplainRow) → (length entry.frame < 14) ⊎ (14 ≤ length entry.frame) → IsRowOf entry row
    → IsRowOf entry other → row ≡ other
one_row entry row other size is also =
    let same = one_dissection entry.frame (dissection_of row) (dissection_of other) size is.dissected also.dissected in
    let secs : row.secs ≡ other.secs = is.secs_are ∙ sym also.secs_are in
    let micros : row.micros ≡ other.micros = is.micros_are ∙ sym also.micros_are in
    let captured : row.captured ≡ other.captured = is.captured_is ∙ sym also.captured_is in
    let told : row.length ≡ other.length = is.length_is ∙ sym also.length_is in
    ap (λ (d : Dissection). with_dissection row d) same ∙ ap (λ (n : ℕ). with_dissection (record row { secs = n }) (dissection_of other)) secs
    ∙ ap (λ (n : ℕ). with_dissection (record row { secs = other.secs; micros = n }) (dissection_of other)) micros
    ∙ ap (λ (n : ℕ). with_dissection (record row { secs = other.secs; micros = other.micros; captured = n }) (dissection_of other)) captured
    ∙ ap (λ (n : ℕ). record other { length = n }) told

one_rows : (entries : List CaptureEntry) (rows others : List ExplainRow) → AreRowsOf entries rows → AreRowsOf entries others → rows ≡ others
one_rows [] rows others are also = are ∙ sym also
one_rows (entry ∷ entries) [] others are also = absurd are
one_rows (entry ∷ entries) (row ∷ rows) [] are also = absurd also
one_rows (entry ∷ entries) (row ∷ rows) (other ∷ others) are also =
    ap₂ (λ (r : ExplainRow) (rs : List ExplainRow). r ∷ rs) (one_row entry row other (cases_lt (length entry.frame) 14) are.0 also.0)
    (one_rows entries rows others are.1 also.1)

pub are_one : AreOneFile
are_one = record { entries = one_file; rows = one_rows }
