-- The answers of a script that is shown, by those of its reader.
use Rattle.script_reader.specs.declared.script.ReadEventError.{ReadEventError}
use Rattle.script_reader.specs.declared.script.ReadEventError.TheVariants as read
use Rattle.script_text.specs.declared.showing.ShowError.{ShowError}
use Rattle.script_text.specs.declared.showing.ShowError.TheVariants.{Script, Limit, Read}

abbrev pub of_read_event : ReadEventError → ShowError
of_read_event (read.Script offset) = Script offset
of_read_event read.Limit = Limit
of_read_event read.Read = Read
