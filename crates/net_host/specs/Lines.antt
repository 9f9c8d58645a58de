-- The lines of queries in a row.
use Rattle.std.specs.Prelude.{ℕ, suc, nat_lt, List, [], ◌∷◌, if◌then◌else◌}
use Rattle.host_model.specs.declared.query_line.QueryLine.{QueryLine}

-- how many lines stand in front of the first whose query has a greater number
abbrev pub place_for : ℕ → List QueryLine → ℕ
place_for query [] = 0
place_for query (line ∷ lines) = if nat_lt query line.query then 0 else suc (place_for query lines)
