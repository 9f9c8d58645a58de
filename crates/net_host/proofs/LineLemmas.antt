-- Lines in the order of the numbers of their queries.
use Rattle.std.proofs.Common.{◌≡◌, suc, Bool, true, false, cond, List, [], ◌∷◌, refl, ap}
use Rattle.std.specs.Prelude.{nat_lt}
use Rattle.std.specs.List.{insert}
use Rattle.host_model.specs.declared.query_line.QueryLine.{QueryLine}
use Rattle.host_model.specs.QueryLines.{with_line}
use Rattle.net_host.specs.Lines.{place_for}

with_line_by : (line one : QueryLine) (lines : List QueryLine) (before : Bool)
    → insert lines (place_for line.query lines) line ≡ with_line line lines
    → insert (one ∷ lines) (cond before 0 (suc (place_for line.query lines))) line
    ≡ cond before (line ∷ one ∷ lines) (one ∷ with_line line lines)
with_line_by line one lines true rest = refl
with_line_by line one lines false rest = ap (λ more. one ∷ more) rest

pub with_line_at : (line : QueryLine) (lines : List QueryLine)
    → insert lines (place_for line.query lines) line ≡ with_line line lines
with_line_at line [] = refl
with_line_at line (one ∷ lines) =
    with_line_by line one lines (nat_lt line.query one.query) (with_line_at line lines)
