-- The report of a script that a server serves.
use Rattle.std.specs.Prelude.{ℕ, List}
use Rattle.host_model.specs.Classes.{IsScript}
use Rattle.host_model.specs.Script.{Event}
use Rattle.lease_server.specs.Values.{Values}
use Rattle.server_run.specs.declared.report.ServeRow.{ServeRow}
use Rattle.server_run.specs.Rows.{AreRows}

-- the bytes are a script of at most 1000 events, and the rows are those of these
pub record HasServedRows (values : Values) (bytes : List ℕ) (rows : List ServeRow) : Type 0 where
  pub events : List Event
  pub script : IsScript 1000 bytes events
  pub served : AreRows values events rows
