-- The numbers stand one behind the other.
use Rattle.std.proofs.Common.{◌∙◌, ap, arith}
use Rattle.std.specs.Int.{from_le_bytes, w32}
use Rattle.capture_explain.proofs.ReadingLemmas.{numbers_behind}
use Rattle.capture_explain.proofs.entry_reader.numbers_of.Goals as goal

pub returns : goal.returns
returns c =
    numbers_behind c.args.first c.args.rest.now c.from_le_bytes.result c.from_le_bytes-2.result c.from_le_bytes-3.result c.from_le_bytes-4.result
    c.requires c.ranges.first.fits (λ i. omega (arith, c.type_inv.rest i))
    c.from_le_bytes.ensures
    (c.from_le_bytes-2.ensures ∙ ap (from_le_bytes w32) c.read_array.ensures)
    (c.from_le_bytes-3.ensures ∙ ap (from_le_bytes w32) c.read_array-2.ensures)
    (c.from_le_bytes-4.ensures ∙ ap (from_le_bytes w32) c.read_array-3.ensures)
