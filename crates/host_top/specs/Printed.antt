-- What a printer of rows hands to its output.
use mathlib.Core.Path.{subst, sym}
use mathlib.Core.List.{append-nil}
use native.Mathlib.Nat.{add-zero}
use Rattle.std.specs.Prelude.{◌≡◌, ℕ, ◌+◌, ◌<◌, ◌^◌, Bool, List, [], length, Option, Result, refl}
use Rattle.std.specs.List.{flat_map, enumerate_from}
use Rattle.phy_layers.specs.declared.byte_sink.ByteSink as byte_sink
use Rattle.phy_layers.specs.declared.byte_sink.SinkError.{SinkError}
use Rattle.phy_layers.specs.Sink.{Took}
use Rattle.host_top.specs.declared.printer.RowPrinter.{RowPrinter}
use Rattle.capture_explain.specs.Text.{Puts}

-- The printer has the output that it had at first, and counted the rows and handed it their text, where there are not
-- more than it can count.
pub record PrintsRows {O R : Type 0} (sink : byte_sink.Ghosts O) (text : ℕ × R → List ℕ) (first : RowPrinter O)
    (rows : List R) (last : RowPrinter O) : Type 0 where
  pub same : last.out.ghost_name ≡ first.out.ghost_name
  pub counted : first.number + length rows < 2 ^ 64 → last.number ≡ first.number + length rows
  pub puts : first.number + length rows < 2 ^ 64
      → Puts sink.bytes sink.faults sink.grows first.answer last.answer
      (flat_map text (enumerate_from first.number rows)) first.out.now last.out.now

-- nothing is handed on
puts_nothing : {S : Type 0} {bytes : S → Option (List ℕ)} {faults : S → ℕ} {grows : Bool} {answer : Result (Unit {0}) SinkError}
    {now : S} → Puts bytes faults grows answer answer [] now now
puts_nothing {S} {bytes} {faults} {grows} {answer} {now} = record {
  goes_on = λ start handed earlier.
      let P : List ℕ → Type 0 = λ all. Took bytes faults grows answer all start now in
      subst P (sym (append-nil handed)) earlier;
}

-- and of no rows nothing
pub prints_no_row : {O R : Type 0} (sink : byte_sink.Ghosts O) (text : ℕ × R → List ℕ) (printer : RowPrinter O)
    → PrintsRows sink text printer [] printer
prints_no_row {O} {R} sink text printer =
    record { same = refl; counted = λ few. sym (add-zero printer.number); puts = λ few. puts_nothing }
