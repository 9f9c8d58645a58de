-- The line of the frame, and then those of its headers.
use Rattle.std.proofs.Common.{ap}
use Rattle.std.specs.List.{flat_map}
use Rattle.capture_explain.specs.ExplainText.{ah_line}
use Rattle.capture_explain.proofs.TextLemmas.{puts_then, puts_same}
use Rattle.capture_explain.proofs.row_text.put_row.Goals as goal

pub returns : goal.returns
returns g c = puts_then (puts_then c.put_frame.ensures (puts_same c.put_headers.ensures (ap (flat_map ah_line) c.as_slice.ensures.value))) c.put_esp.ensures
