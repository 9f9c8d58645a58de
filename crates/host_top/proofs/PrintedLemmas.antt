-- A printer that is told of one row more.
use Rattle.std.proofs.Common.{◌≡◌, ℕ, ◌+◌, ◌<◌, ◌^◌, List, [], ◌∷◌, ◌++◌, length, length-append, Result, Ok, refl, ap, sym, subst, ◌∙◌, arith}
use Rattle.std.specs.List.{flat_map, enumerate_from}
use Rattle.std.proofs.lemmas.Grind.{flat_map-append}
use Rattle.phy_layers.specs.declared.byte_sink.ByteSink as byte_sink
use Rattle.phy_layers.specs.declared.byte_sink.SinkError.{SinkError}
use Rattle.phy_layers.specs.Sink.{Took}
use Rattle.host_top.specs.declared.printer.RowPrinter.{RowPrinter}
use Rattle.net_host.specs.declared.report.Row.{Row}
use Rattle.server_run.specs.declared.report.ServeRow.{ServeRow}
use Rattle.host_top.specs.Printed.{PrintsRows}
use Rattle.host_top.specs.ReportText.{row_text, report_bytes}
use Rattle.host_top.specs.ServeText.{served_text, serve_bytes}
use Rattle.capture_explain.specs.Text.{Puts}
use Rattle.host_top.proofs.TextLemmas.{enumerate_from-push, puts_same, puts_then}

-- the text of one row more
text_push : {R : Type 0} (text : ℕ × R → List ℕ) (n number : ℕ) (rows : List R) (row : R) → number ≡ n + length rows
    → flat_map text (enumerate_from n rows) ++ (text (number, row) ++ [])
    ≡ flat_map text (enumerate_from n (rows ++ row ∷ []))
text_push text n number rows row is =
    let front = flat_map text (enumerate_from n rows) in
    sym (ap (flat_map text) (enumerate_from-push n rows row)
    ∙ flat_map-append text (enumerate_from n rows) ((n + length rows, row) ∷ [])
    ∙ ap (λ k. front ++ (text (k, row) ++ [])) (sym is))

pub prints_more : {O R : Type 0} (sink : byte_sink.Ghosts O) (text : ℕ × R → List ℕ) (first old new : RowPrinter O) (rows : List R) (row : R) (between : O)
    (middle : Result (Unit {0}) SinkError) → PrintsRows sink text first rows old
    → Puts sink.bytes sink.faults sink.grows old.answer middle (text (old.number, row)) old.out.now between
    → Puts sink.bytes sink.faults sink.grows middle new.answer [] between new.out.now
    → new.out.ghost_name ≡ old.out.ghost_name
    → (old.number + 1 < 2 ^ 64 → new.number ≡ old.number + 1)
    → PrintsRows sink text first (rows ++ row ∷ []) new
prints_more {O} {R} sink text first old new rows row between middle prints put flush same counts =
    let longer : length (rows ++ row ∷ []) ≡ length rows + 1 = length-append rows (row ∷ []) in
    record {
      same = same ∙ prints.same;
      counted = λ few.
          let is = prints.counted (omega (arith, few, longer)) in
          omega (arith, is, longer, counts (omega (arith, few, longer, is)));
      puts = λ few.
          let fewer : first.number + length rows < 2 ^ 64 = omega (arith, few, longer) in
          puts_same (puts_then (prints.puts fewer) (puts_then put flush)) (text_push text first.number old.number rows row (prints.counted fewer));
    }

-- a whole report whose rows were printed as they came, and its last line
pub printed_whole : {O R : Type 0} (sink : byte_sink.Ghosts O) (text : ℕ × R → List ℕ) (first last : RowPrinter O) (rows : List R)
    (all line : List ℕ) (old new : O) (answer : Result (Unit {0}) SinkError) → flat_map text (enumerate_from 0 rows) ≡ all
    → PrintsRows sink text first rows last → length rows < 2 ^ 64
    → first.number ≡ 0 → first.answer ≡ Ok tt → first.out.now ≡ old
    → Took sink.bytes sink.faults sink.grows (Ok tt) [] old old
    → Puts sink.bytes sink.faults sink.grows last.answer answer line last.out.now new
    → Took sink.bytes sink.faults sink.grows answer (all ++ line) old new
printed_whole {O} {R} sink text first last rows all line old new answer are prints few zero fresh is nothing behind =
    let below : first.number + length rows < 2 ^ 64 = omega (arith, zero, few) in
    let puts = prints.puts below in
    let N : ℕ → Type 0 = λ n. Puts sink.bytes sink.faults sink.grows first.answer last.answer (flat_map text (enumerate_from n rows)) first.out.now last.out.now in
    let from_zero = puts_same (subst N zero puts) are in
    let whole = puts_then from_zero behind in
    let R : Result (Unit {0}) SinkError → Type 0 = λ r. Took sink.bytes sink.faults sink.grows r [] old old in
    let S : O → Type 0 = λ o. Took sink.bytes sink.faults sink.grows first.answer [] old o in
    whole.goes_on old [] (subst S (sym is) (subst R (sym fresh) nothing))

-- all rows
pub report_is : (rows : List Row) → flat_map row_text (enumerate_from 0 rows) ≡ report_bytes rows
unfolding report_bytes
report_is rows = refl

pub served_is : (rows : List ServeRow) → flat_map served_text (enumerate_from 0 rows) ≡ serve_bytes rows
unfolding serve_bytes
served_is rows = refl
