-- Where the refusal of an IP header is counted from.
use Rattle.std.specs.Prelude.{ℕ, ◌+◌}
use Rattle.ether_ip.specs.declared.err.ip.LaxHeaderSliceError.{LaxHeaderSliceError}
use Rattle.ether_ip.specs.declared.err.ip.LaxHeaderSliceError.TheVariants.{Len, Content}

-- where the refused header begins, and 0 for a refusal that does not say so
abbrev pub start_offset : LaxHeaderSliceError → ℕ
start_offset (Len error) = error.layer_start_offset
start_offset (Content error) = 0

-- the same refusal, counted from some bytes before
abbrev pub at_offset : ℕ → LaxHeaderSliceError → LaxHeaderSliceError
at_offset offset (Len error) = Len (record error { layer_start_offset = error.layer_start_offset + offset })
at_offset offset (Content error) = Content error
