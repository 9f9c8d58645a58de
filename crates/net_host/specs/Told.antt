-- The ids that a link between reader and host is told.
use Rattle.std.specs.Prelude.{ℕ, List, []}
use Rattle.host_model.specs.Chronicle.{history_from}
use Rattle.host_model.specs.History.{Entry, last_id}
use Rattle.host_model.specs.Script.{Event}
use Rattle.host_model.specs.Settings.{Settings}

-- the id of the message that a host sent last, behind some entries and once it met these events
abbrev pub told_behind : Settings → List ℕ → List Entry → List Event → ℕ
told_behind settings words before met = last_id (history_from settings words before met)

-- and from the first event on
abbrev pub told_by : Settings → List ℕ → List Event → ℕ
told_by settings words met = told_behind settings words [] met
