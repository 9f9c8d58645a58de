-- What a row says of the queries that ended in its event.
use Rattle.std.specs.Prelude.{ℕ, nat_lt, List, [], ◌∷◌, Option, Some, None, if◌then◌else◌}
use Rattle.net_wire.specs.declared.address.IpAddress.{IpAddress}
use Rattle.dns_client.specs.declared.error.StartQueryError.{StartQueryError}
use Rattle.host_model.specs.declared.query_line.Outcome.{Outcome}
use Rattle.host_model.specs.declared.query_line.Outcome.TheVariants.{Refused, Answered, Failed}
use Rattle.host_model.specs.declared.query_line.QueryLine.{QueryLine}
use Rattle.host_model.specs.QuerySlots.{Slot, Free, Live, Over}

abbrev pub line_of : ℕ → Outcome → QueryLine
line_of query outcome = record { query = query; outcome = outcome }

-- no address means that it failed
abbrev pub outcome_of : List IpAddress → Outcome
outcome_of [] = Failed
outcome_of (address ∷ more) = Answered (record { items = address ∷ more })

-- lines with one more, in the order of the numbers of their queries
abbrev pub with_line : QueryLine → List QueryLine → List QueryLine
with_line line [] = line ∷ []
with_line line (one ∷ lines) =
    if nat_lt line.query one.query then line ∷ one ∷ lines else one ∷ with_line line lines

-- the lines of the queries that ended, by their numbers
abbrev pub lines_of : List Slot → List QueryLine
lines_of [] = []
lines_of (Free ∷ slots) = lines_of slots
lines_of (Live query ∷ slots) = lines_of slots
lines_of (Over number addresses ∷ slots) = with_line (line_of number (outcome_of addresses)) (lines_of slots)

-- the line of a query that was refused
abbrev pub refused_lines : ℕ → Option StartQueryError → List QueryLine
refused_lines number None = []
refused_lines number (Some fault) = line_of number (Refused fault) ∷ []
