-- What a caller knows of a host that it hands events to.
use Rattle.std.specs.Prelude.{ℕ, ℤ, List, ◌∷◌}
use Rattle.phy_layers.specs.PcapBytes.{epoch_micros}
use Rattle.host_model.specs.declared.words.EventWords.{EventWords}
use Rattle.host_model.specs.Chronicle.{entry_of}
use Rattle.host_model.specs.History.{Entry}
use Rattle.host_model.specs.Script.{Arrival}
use Rattle.host_model.specs.Settings.{Settings}
use Rattle.net_host.specs.declared.host.Host.{Host}
use Rattle.net_host.specs.declared.report.Row.{Row}
use Rattle.net_host.specs.Agreement.{AgreesWithHistory}
use Rattle.net_host.specs.Config.{CanRun}
use Rattle.net_host.specs.Rows.{IsRowOf}
use Rattle.script_reader.specs.declared.script.ScriptEvent.{ScriptEvent}
use Rattle.script_reader.specs.Reading.{arrival_of, event_at}

-- The entries, newest first, once an event came at a time. It is opened by its name alone, so that a caller's entries stay as they
-- are written.
unfoldable pub entries_with : Settings → List Entry → ℕ → Arrival → EventWords → List Entry
entries_with settings before at arrival words =
    entry_of settings before (record { at = at; arrival = arrival }) words ∷ before

-- The row is that of the event's entry behind whatever history the host agrees with,
abbrev pub GivesRow : ℤ → ScriptEvent → EventWords → Host → Row → Type 0
GivesRow at event words old row = (settings : Settings) (before : List Entry) → CanRun settings
    → AgreesWithHistory settings before old
    → IsRowOf settings before (entry_of settings before (event_at at event) words) row

-- and then the host agrees with that entry too.
abbrev pub Meets : ℤ → ScriptEvent → EventWords → Host → Host → Type 0
Meets at event words old new = (settings : Settings) (before : List Entry) → CanRun settings
    → AgreesWithHistory settings before old
    → AgreesWithHistory settings (entries_with settings before (epoch_micros at) (arrival_of event) words) new
