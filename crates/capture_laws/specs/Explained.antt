-- A run of a script in memory whose capture was explained.
use Rattle.std.specs.Prelude.{◌≡◌, ℕ, ◌⊎◌, List, map}
use Rattle.std.specs.List.{flat_map}
use Rattle.capture_explain.specs.Rows.{AreRowsOf}
use Rattle.capture_explain.specs.declared.error.ExplainError.{ExplainError}
use Rattle.capture_explain.specs.declared.error.ExplainError.TheVariants.{Limit, NoMemory}
use Rattle.capture_explain.specs.declared.explanation.ExplainRow.{ExplainRow}
use Rattle.host_model.specs.Classes.{IsScript}
use Rattle.host_model.specs.Script.{Event}
use Rattle.host_model.specs.Settings.{Settings}
use Rattle.net_host.specs.declared.report.Row.{Row}
use Rattle.net_host.specs.Rows.{AreRows}
use Rattle.capture_laws.specs.Entries.{run_entries}
use Rattle.capture_laws.specs.Laws.{stamp_of, row_stamps}

-- a capture is refused for its number of frames alone, or memory ran out
abbrev pub IsLimitOrMemory : ExplainError → Type 0
IsLimitOrMemory error = (error ≡ Limit) ⊎ (error ≡ NoMemory)

-- The bytes are a script of at most 1000 events, the report has their rows, and the explanation has a row for each
-- frame that arrived or was sent, with its time and its length.
pub record IsExplainedRun (settings : Settings) (words script : List ℕ) (report : List Row) (rows : List ExplainRow)
    : Type 0 where
  pub events : List Event
  pub spelled : IsScript 1000 script events
  pub answered : AreRows settings words events report
  pub explained : AreRowsOf (run_entries events report) rows
  pub told : map stamp_of rows ≡ flat_map row_stamps report
