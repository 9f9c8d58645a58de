-- Pieces that are handed to a sink one after another.
use Rattle.std.proofs.Common.{◌≡◌, ℕ, ◌≤◌, List, [], ◌∷◌, ◌++◌, length, get_or, take, map, append_assoc, ap, ◌∙◌, refl, arith}
use Rattle.std.specs.Fmt.{decimal}
use Rattle.std.specs.List.{join_with_byte, enumerate_from, flat_map}
use Rattle.std.proofs.lemmas.List.{take_all}
pub use Rattle.capture_explain.proofs.TextLemmas.{enumerate_from-push, puts_nothing, puts_same, puts_then, puts_took, rows_more}
use Rattle.net_host.specs.declared.report.Row.{Row}
use Rattle.server_run.specs.declared.report.ServeRow.{ServeRow}
use Rattle.host_top.specs.ReportText.{row_text, report_bytes}
use Rattle.host_top.specs.ServeText.{served_text, serve_bytes}

-- a list of four
pub four_items : {X : Type 0} (xs : List X) (d : X) → length xs ≡ 4 → xs ≡ get_or xs 0 d ∷ get_or xs 1 d ∷ get_or xs 2 d ∷ get_or xs 3 d ∷ []
four_items [] d is = absurd (omega (arith, is))
four_items (a ∷ []) d is = absurd (omega (arith, is))
four_items (a ∷ b ∷ []) d is = absurd (omega (arith, is))
four_items (a ∷ b ∷ c ∷ []) d is = absurd (omega (arith, is))
four_items (a ∷ b ∷ c ∷ d' ∷ []) d is = refl
four_items (a ∷ b ∷ c ∷ d' ∷ e ∷ xs) d is = absurd (omega (arith, is))

-- four numbers with points between them
pub dotted : (numbers : List ℕ) (a b c d : ℕ) → numbers ≡ a ∷ b ∷ c ∷ d ∷ []
    → decimal a ++ (46 ∷ []) ++ decimal b ++ (46 ∷ []) ++ decimal c ++ (46 ∷ []) ++ decimal d ≡ join_with_byte 46 (map decimal numbers)
dotted numbers a b c d are = rw are (simp append_assoc)

-- all rows
pub report_whole : (rows taken : List Row) (i : ℕ) → taken ≡ rows → length taken ≤ i
    → flat_map row_text (enumerate_from 0 (take i taken)) ≡ report_bytes rows
unfolding report_bytes
report_whole rows taken i same all = ap (λ l. flat_map row_text (enumerate_from 0 l)) (take_all i taken all ∙ same)

pub served_whole : (rows taken : List ServeRow) (i : ℕ) → taken ≡ rows → length taken ≤ i
    → flat_map served_text (enumerate_from 0 (take i taken)) ≡ serve_bytes rows
unfolding serve_bytes
served_whole rows taken i same all = ap (λ l. flat_map served_text (enumerate_from 0 l)) (take_all i taken all ∙ same)
