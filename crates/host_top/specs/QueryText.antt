-- The lines of queries in a report.
use Rattle.std.specs.Prelude.{ℕ, List, ◌++◌, map, codes}
use Rattle.std.specs.Fmt.{decimal}
use Rattle.std.specs.List.{join_with_byte}
use Rattle.dns_client.specs.declared.error.StartQueryError.{StartQueryError}
use Rattle.dns_client.specs.declared.error.StartQueryError.TheVariants.{NoFreeSlot, InvalidName, NameTooLong, NoMemory}
use Rattle.host_model.specs.declared.query_line.Outcome.{Outcome}
use Rattle.host_model.specs.declared.query_line.Outcome.TheVariants.{Refused, Answered, Failed}
use Rattle.host_model.specs.declared.query_line.QueryLine.{QueryLine}
use Rattle.host_top.specs.AddressText.{ip_text}

-- Why a query is not started. Want of memory refuses none in a run, whose slots for queries are there beforehand.
abbrev pub refusal_text : StartQueryError → List ℕ
refusal_text NoFreeSlot = codes "no-free-slot"
refusal_text InvalidName = codes "invalid-name"
refusal_text NameTooLong = codes "name-too-long"
refusal_text NoMemory = codes "no-memory"

-- what became of a query: its addresses have commas between them
abbrev pub outcome_text : Outcome → List ℕ
outcome_text (Refused fault) = codes "refused " ++ refusal_text fault
outcome_text (Answered addresses) = codes "answered " ++ join_with_byte 44 (map ip_text addresses.items)
outcome_text Failed = codes "failed"

-- the line of a query: its number, and what became of it
abbrev pub query_line : QueryLine → List ℕ
query_line line =
    codes "  query " ++ decimal line.query ++ codes " " ++ outcome_text line.outcome ++ codes "\n"
