-- What the errors print.
use Rattle.std.specs.Prelude.{ℕ, List, codes}
use Rattle.dns_client.specs.declared.error.StartQueryError.{StartQueryError}
use Rattle.dns_client.specs.declared.error.StartQueryError.TheVariants as start
use Rattle.dns_client.specs.declared.error.GetQueryResultError.{GetQueryResultError}
use Rattle.dns_client.specs.declared.error.GetQueryResultError.TheVariants as get

abbrev pub start_text : StartQueryError → List ℕ
start_text start.NoFreeSlot = codes "No free slot"
start_text start.InvalidName = codes "Invalid name"
start_text start.NameTooLong = codes "Name too long"
start_text start.NoMemory = codes "No memory"

abbrev pub get_text : GetQueryResultError → List ℕ
get_text get.Pending = codes "Query is not done yet"
get_text get.Failed = codes "Query failed"
