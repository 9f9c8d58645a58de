-- What a run left that a command names.
use Rattle.std.specs.Prelude.{List}
use Rattle.net_host.specs.declared.report.Row.{Row}
use Rattle.net_host.specs.declared.run_script.RunError.{RunError}
use Rattle.net_host.specs.declared.run_script.RunError.TheVariants as run_error
use Rattle.net_host.specs.Outside.{Outside, IsQuiet}
use Rattle.net_host.specs.Run.{Task, task_of, Finished, Leaves, HasCause}
use Rattle.host_top.specs.declared.command.RunCommand.{RunCommand}
use Rattle.host_top.specs.declared.ending.Ending.{Ending}
use Rattle.host_top.specs.declared.ending.Ending.TheVariants.{Done, Refused, Script, Limit, Entry, FrameLimit, Read, Capture, NoMemory}
use Rattle.host_top.specs.RunWords.{settings_named}
use Rattle.host_top.specs.Generator.{event_words}

-- what a run is told that was named so
abbrev pub task_named : RunCommand → Task
task_named run = task_of (settings_named run) (event_words run) run.max_events

-- the run answered so, with what it left and why
abbrev pub Ran : Task → Outside → Outside → List Row → RunError → Type 0
Ran task before after report error = Leaves task before after report error × HasCause task before after error

-- What a run left when it ended so, and why it did. There are words enough for each event.
abbrev pub RanAs : Task → Outside → Outside → List Row → Ending → Type 0
RanAs task before after report Done = Finished task before after report × IsQuiet before after
RanAs task before after report Refused = ⊥
RanAs task before after report (Script offset) = Ran task before after report (run_error.Script offset)
RanAs task before after report Limit = Ran task before after report run_error.Limit
RanAs task before after report (Entry offset) = ⊥
RanAs task before after report FrameLimit = ⊥
RanAs task before after report Read = Ran task before after report run_error.Read
RanAs task before after report Capture = Ran task before after report run_error.Sink
RanAs task before after report NoMemory = Ran task before after report run_error.NoMemory

-- and the run of the words
abbrev pub RanTo : RunCommand → Outside → Outside → List Row → Ending → Type 0
RanTo run before after report ending = RanAs (task_named run) before after report ending
