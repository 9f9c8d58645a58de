-- The report of a script that comes over a bad link.
use Rattle.std.specs.Prelude.{ℕ, List}
use Rattle.host_model.specs.Classes.{IsScript}
use Rattle.host_model.specs.Script.{Event}
use Rattle.host_model.specs.Settings.{Settings}
use Rattle.net_host.specs.declared.report.Row.{Row}
use Rattle.net_host.specs.Rows.{AreRows}
use Rattle.host_disturb.specs.declared.fault_values.FaultValues.{FaultValues}
use Rattle.host_disturb.specs.Disturbed.{disturbed}

-- the bytes are a script of at most 1000 events, and the rows are those of what is met in place of these
pub record HasRowsOver (faults : FaultValues) (settings : Settings) (words bytes : List ℕ)
    (rows : List Row) : Type 0 where
  pub events : List Event
  pub script : IsScript 1000 bytes events
  pub answered : AreRows settings words (disturbed faults events) rows
