-- Pieces that are handed to a sink one after another.
use Rattle.std.proofs.Common.{◌≡◌, ℕ, ◌+◌, ◌<◌, ◌≤◌, Bool, List, [], ◌∷◌, ◌++◌, length, get_or, take, append_assoc, append-nil, Option, Result, Ok, subst, sym, ap, ◌∙◌, refl, arith, length-take}
use Rattle.std.specs.List.{enumerate_from, flat_map}
use Rattle.std.proofs.lemmas.List.{take_more, take_all}
use Rattle.std.proofs.lemmas.Grind.{flat_map-append}
use Rattle.phy_layers.specs.declared.byte_sink.SinkError.{SinkError}
use Rattle.phy_layers.specs.Sink.{Took}
use Rattle.phy_layers.proofs.SinkLemmas.{took_then}
use Rattle.capture_explain.specs.declared.explanation.ExplainRow.{ExplainRow}
use Rattle.capture_explain.specs.Capture.{CaptureEntry}
use Rattle.capture_explain.specs.PrintText.{entry_text, print_bytes}
use Rattle.capture_explain.specs.Text.{Puts}
use Rattle.capture_explain.specs.ExplainText.{row_text, explanation_bytes}

-- a piece behind calls that took all
pub puts_took : {S : Type 0} {bytes : S → Option (List ℕ)} {faults : S → ℕ} {grows : Bool} {before after : Result (Unit {0}) SinkError}
    {piece : List ℕ} {old new : S} → before ≡ Ok tt → Took bytes faults grows after piece old new
    → Puts bytes faults grows before after piece old new
puts_took {S} {bytes} {faults} {grows} {before} {after} {piece} {old} {new} is took = record {
  goes_on = λ start handed earlier.
      let P : Result (Unit {0}) SinkError → Type 0 = λ r. Took bytes faults grows r handed start old in
      took_then (subst P is earlier) took;
}

-- one piece behind another
pub puts_then : {S : Type 0} {bytes : S → Option (List ℕ)} {faults : S → ℕ} {grows : Bool} {before middle after : Result (Unit {0}) SinkError}
    {piece more : List ℕ} {old between new : S} → Puts bytes faults grows before middle piece old between
    → Puts bytes faults grows middle after more between new → Puts bytes faults grows before after (piece ++ more) old new
puts_then {S} {bytes} {faults} {grows} {before} {middle} {after} {piece} {more} {old} {between} {new} first second = record {
  goes_on = λ start handed earlier.
      let P : List ℕ → Type 0 = λ all. Took bytes faults grows after all start new in
      subst P (append_assoc handed piece more) (second.goes_on start (handed ++ piece) (first.goes_on start handed earlier));
}

-- no piece
pub puts_nothing : {S : Type 0} {bytes : S → Option (List ℕ)} {faults : S → ℕ} {grows : Bool} {answer : Result (Unit {0}) SinkError}
    {now : S} → Puts bytes faults grows answer answer [] now now
puts_nothing {S} {bytes} {faults} {grows} {answer} {now} = record {
  goes_on = λ start handed earlier.
      let P : List ℕ → Type 0 = λ all. Took bytes faults grows answer all start now in
      subst P (sym (append-nil handed)) earlier;
}

-- the piece in other words
pub puts_same : {S : Type 0} {bytes : S → Option (List ℕ)} {faults : S → ℕ} {grows : Bool} {before after : Result (Unit {0}) SinkError}
    {piece same : List ℕ} {old new : S} → Puts bytes faults grows before after piece old new → piece ≡ same
    → Puts bytes faults grows before after same old new
puts_same {S} {bytes} {faults} {grows} {before} {after} {piece} {same} {old} {new} puts is =
    let P : List ℕ → Type 0 = λ l. Puts bytes faults grows before after l old new in
    subst P is puts

-- one row more
pub enumerate_from-push : {X : Type 0} (n : ℕ) (xs : List X) (x : X) → enumerate_from n (xs ++ x ∷ []) ≡ enumerate_from n xs ++ (n + length xs, x) ∷ []
enumerate_from-push n [] x = ap (λ k. (k, x) ∷ []) (omega arith)
enumerate_from-push n (y ∷ xs) x =
    ap (λ l. (n, y) ∷ l) (enumerate_from-push (n + 1) xs x ∙ ap (λ k. enumerate_from (n + 1) xs ++ (k, x) ∷ []) (omega arith))

pub rows_more : {X : Type 0} (f : ℕ × X → List ℕ) (xs : List X) (i n : ℕ) (x : X) → i < length xs → x ≡ get_or xs i x → n ≡ i
    → flat_map f (enumerate_from 0 (take i xs)) ++ f (n, x) ≡ flat_map f (enumerate_from 0 (take (i + 1) xs))
rows_more f xs i n x within is same =
    let counted : 0 + length (take i xs) ≡ n = omega (arith, length-take i xs, same) in
    let front = flat_map f (enumerate_from 0 (take i xs)) in
    sym (ap (λ l. flat_map f (enumerate_from 0 l)) (take_more xs i x within)
    ∙ ap (flat_map f) (enumerate_from-push 0 (take i xs) (get_or xs i x))
    ∙ flat_map-append f (enumerate_from 0 (take i xs)) ((0 + length (take i xs), get_or xs i x) ∷ [])
    ∙ ap (λ l. front ++ l) (append-nil (f (0 + length (take i xs), get_or xs i x)))
    ∙ ap (λ k. front ++ f (k, get_or xs i x)) counted
    ∙ ap (λ y. front ++ f (n, y)) (sym is))

-- all rows
pub text_whole : (rows taken : List ExplainRow) (i : ℕ) → taken ≡ rows → length taken ≤ i
    → flat_map row_text (enumerate_from 0 (take i taken)) ≡ explanation_bytes rows
unfolding explanation_bytes
text_whole rows taken i same all = ap (λ l. flat_map row_text (enumerate_from 0 l)) (take_all i taken all ∙ same)

-- an entry more that is printed
pub entries_more : (entries : List CaptureEntry) (entry : CaptureEntry) (number : ℕ) → length entries ≡ number
    → print_bytes entries ++ entry_text (number, entry) ≡ print_bytes (entries ++ entry ∷ [])
unfolding print_bytes
entries_more entries entry number counted =
    let front = flat_map entry_text (enumerate_from 0 entries) in
    let same : 0 + length entries ≡ number = omega (arith, counted) in
    sym (ap (flat_map entry_text) (enumerate_from-push 0 entries entry)
    ∙ flat_map-append entry_text (enumerate_from 0 entries) ((0 + length entries, entry) ∷ [])
    ∙ ap (λ l. front ++ l) (append-nil (entry_text (0 + length entries, entry)))
    ∙ ap (λ (k : ℕ). front ++ entry_text (k, entry)) same)

-- and none
pub no_entries : print_bytes [] ≡ []
unfolding print_bytes
no_entries = refl

-- nothing more was handed to the sink
pub puts_kept : {S : Type 0} {bytes : S → Option (List ℕ)} {faults : S → ℕ} {grows : Bool} {before middle after : Result (Unit {0}) SinkError}
    {piece : List ℕ} {old between new : S} → Puts bytes faults grows before middle piece old between → after ≡ middle → new ≡ between
    → Puts bytes faults grows before after piece old new
puts_kept {S} {bytes} {faults} {grows} {before} {middle} {after} {piece} {old} {between} {new} puts same stays =
    let P : Result (Unit {0}) SinkError → Type 0 = λ r. Puts bytes faults grows before r piece old between in
    let Q : S → Type 0 = λ s. Puts bytes faults grows before after piece old s in
    subst Q (sym stays) (subst P (sym same) puts)

-- before the first entry
pub puts_no_entries : {S : Type 0} {bytes : S → Option (List ℕ)} {faults : S → ℕ} {grows : Bool} {answer : Result (Unit {0}) SinkError}
    {now : S} → Puts bytes faults grows answer answer (print_bytes []) now now
puts_no_entries {S} {bytes} {faults} {grows} {answer} {now} = puts_same puts_nothing (sym no_entries)
