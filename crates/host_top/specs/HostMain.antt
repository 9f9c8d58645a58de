-- What the program does, by the words, the script and what the outside tells.
use Rattle.std.specs.Prelude.{◌≡◌, ℕ, ◌⊎◌, ⊤, List, [], ◌++◌, Option, Some, None, IfSome}
use Rattle.host_model.specs.Classes.{IsBrokenAt, IsOverLimit}
use Rattle.phy_layers.specs.declared.byte_sink.ByteSink as byte_sink
use Rattle.phy_layers.specs.Sink.{Took}
use Rattle.net_host.specs.declared.report.Row.{Row}
use Rattle.net_host.specs.Outside.{Outside}
use Rattle.net_host.specs.Run.{Finished}
use Rattle.capture_explain.specs.declared.explanation.ExplainRow.{ExplainRow}
use Rattle.capture_explain.specs.Capture.{IsCaptureFile, CaptureEntry, HasNoHeader}
use Rattle.capture_explain.specs.Capture.{IsBrokenAt as IsBrokenCapture, IsOverLimit as IsLongCapture}
use Rattle.capture_explain.specs.Explained.{ReadsWhole}
use Rattle.capture_explain.specs.Rows.{TellsRows}
use Rattle.capture_explain.specs.ExplainText.{explanation_bytes}
use Rattle.host_top.specs.declared.command.Command.{Command}
use Rattle.host_top.specs.declared.command.Command.TheVariants.{Run, Make, Explain, Print, Help, Disturb, Serve, Show, Frames}
use Rattle.host_top.specs.declared.command.MakeCommand.{MakeCommand}
use Rattle.host_top.specs.declared.command.RunCommand.{RunCommand}
use Rattle.host_top.specs.declared.ending.Ending.{Ending}
use Rattle.host_top.specs.declared.ending.Ending.TheVariants.{Done, Refused}
use Rattle.host_top.specs.declared.ending.Finish.{Finish}
use Rattle.host_top.specs.Command.{Names, NameWork, IsTaken}
use Rattle.host_top.specs.MakeWords.{run_of_make}
use Rattle.host_top.specs.declared.disturb_command.DisturbCommand.{DisturbCommand}
use Rattle.host_top.specs.declared.capture_command.CaptureCommand.{CaptureCommand}
use Rattle.host_top.specs.Disturb.{DisturbedTo, task_disturbed}
use Rattle.host_top.specs.Ending.{last_line}
use Rattle.host_top.specs.Explain.{ExplainsAs, PrintsAs, TellsLines}
use Rattle.host_top.specs.Making.{IsLeftByMade, IsEndingOfMade}
use Rattle.host_top.specs.Printing.{summed_up}
use Rattle.host_top.specs.Ran.{task_named, RanTo}
use Rattle.host_top.specs.ReportText.{report_bytes}
use Rattle.server_run.specs.declared.report.ServeRow.{ServeRow}
use Rattle.server_run.specs.Served.{Finished as IsServed}
use Rattle.host_top.specs.declared.serve_command.ServeCommand.{ServeCommand}
use Rattle.host_top.specs.Serve.{ServesAs, values_named}
use Rattle.host_top.specs.ServeText.{serve_bytes}
use Rattle.script_text.specs.CapturedFrames.{IsFile, IsBrokenAt as IsBrokenFile, IsOverLimit as IsLongFile}
use Rattle.script_text.specs.Shown.{ReadsWhole as ReadsScript}
use Rattle.script_text.specs.ShownFrames.{ReadsWhole as ReadsFile}
use Rattle.host_top.specs.declared.show_command.ShowCommand.{ShowCommand}
use Rattle.host_top.specs.Show.{ShowsAs, FramesAs, TellsEvents, TellsFrames, remark_of}
use Rattle.host_top.specs.Status.{IsStatusOf, IsUnlessNoMemory}
use Rattle.host_top.specs.Usage.{help_text}

-- the words name a command of which the fact holds
abbrev pub ForNamed : List (List ℕ) → (Command → Type 0) → Type 0
ForNamed words P = (command : Command) × Names words command × P command

-- A run ended so, and what is printed of it: the report and the last line.
pub record EndedRun (run : RunCommand) (before after : Outside) (report : List Row) (ending : Ending) (text : List ℕ)
    : Type 0 where
  pub ran : RanTo run before after report ending
  pub says : text ≡ report_bytes report ++ last_line ending

-- the run of a script that is made; what is printed is a summary where it was done, and else the last line
pub record EndedMake (make : MakeCommand) (before after : Outside) (report : List Row) (ending : Ending) (text : List ℕ)
    : Type 0 where
  pub may : IsEndingOfMade ending
  pub left : IsLeftByMade make (λ before after. RanTo (run_of_make make) before after report ending) before after
  pub says : text ≡ summed_up report ending

-- a run over a bad link ended so; what is printed is that of a run
pub record EndedDisturb (disturb : DisturbCommand) (before after : Outside) (report : List Row) (ending : Ending)
    (text : List ℕ) : Type 0 where
  pub ran : DisturbedTo disturb before after report ending
  pub says : text ≡ report_bytes report ++ last_line ending

-- nothing was captured or reported
pub record IsUncaptured (before after : Outside) (report : List Row) : Type 0 where
  pub captured : after.captured ≡ before.captured
  pub faults : after.capture_faults ≡ before.capture_faults
  pub empty : report ≡ []

-- An explanation of a capture ended so, and what is printed of it: the rows and the last line.
pub record EndedExplain (capture : CaptureCommand) (before after : Outside) (report : List Row) (ending : Ending)
    (text : List ℕ) : Type 0 where
  pub rows : List ExplainRow
  pub explains : ExplainsAs capture.max_frames before.left after.left before.read_faults after.read_faults rows ending
  pub uncaptured : IsUncaptured before after report
  pub says : text ≡ explanation_bytes rows ++ last_line ending

-- A printing of a capture ended so, and its text: that of the entries and the last line.
pub record EndedPrint (capture : CaptureCommand) (before after : Outside) (report : List Row) (ending : Ending)
    (text : List ℕ) : Type 0 where
  pub lines : List ℕ
  pub prints : PrintsAs capture.max_frames before.left after.left before.read_faults after.read_faults lines ending
  pub uncaptured : IsUncaptured before after report
  pub says : text ≡ lines ++ last_line ending

-- A lease server ended so, and what is printed of it: its rows and the last line. The host has no report.
pub record EndedServe (serve : ServeCommand) (before after : Outside) (report : List Row) (ending : Ending)
    (text : List ℕ) : Type 0 where
  pub rows : List ServeRow
  pub serves : ServesAs serve before after rows ending
  pub empty : report ≡ []
  pub says : text ≡ serve_bytes rows ++ last_line ending

-- A text of a script ended so: the lines of its events, and the last line as a comment.
pub record EndedShow (show : ShowCommand) (before after : Outside) (report : List Row) (ending : Ending)
    (text : List ℕ) : Type 0 where
  pub lines : List ℕ
  pub shows : ShowsAs show.max_events before.left after.left before.read_faults after.read_faults lines ending
  pub uncaptured : IsUncaptured before after report
  pub says : text ≡ lines ++ remark_of ending

-- the same of the frames of a capture
pub record EndedFrames (frames : ShowCommand) (before after : Outside) (report : List Row) (ending : Ending)
    (text : List ℕ) : Type 0 where
  pub lines : List ℕ
  pub shows : FramesAs frames.max_events before.left after.left before.read_faults after.read_faults lines ending
  pub uncaptured : IsUncaptured before after report
  pub says : text ≡ lines ++ remark_of ending

-- how the program is used was printed, and nothing else was done
pub record EndedHelp (before after : Outside) (report : List Row) (ending : Ending) (text : List ℕ) : Type 0 where
  pub done : ending ≡ Done
  pub empty : report ≡ []
  pub same : after ≡ before
  pub says : text ≡ help_text

-- What a command left when it ended so, and what is printed of it.
abbrev pub EndedAs : Command → Outside → Outside → List Row → Ending → List ℕ → Type 0
EndedAs (Run run) before after report ending text = EndedRun run before after report ending text
EndedAs (Make make) before after report ending text = EndedMake make before after report ending text
EndedAs (Explain capture) before after report ending text = EndedExplain capture before after report ending text
EndedAs (Print capture) before after report ending text = EndedPrint capture before after report ending text
EndedAs Help before after report ending text = EndedHelp before after report ending text
EndedAs (Disturb disturb) before after report ending text = EndedDisturb disturb before after report ending text
EndedAs (Serve serve) before after report ending text = EndedServe serve before after report ending text
EndedAs (Show show) before after report ending text = EndedShow show before after report ending text
EndedAs (Frames frames) before after report ending text = EndedFrames frames before after report ending text

-- words that name no command: the last line says how the program is used, and nothing is reported
pub record EndedRefused (report : List Row) (ending : Ending) (text : List ℕ) : Type 0 where
  pub empty : report ≡ []
  pub refused : ending ≡ Refused
  pub says : text ≡ last_line Refused

-- how it ended, and its text
abbrev pub HasEnded : Option Command → Outside → Outside → List Row → Ending → List ℕ → Type 0
HasEnded None before after report ending text = EndedRefused report ending text
HasEnded (Some command) before after report ending text = EndedAs command before after report ending text

-- and that was handed to the output
pub record Finishes {O : Type 0} (sink : byte_sink.Ghosts O) (asked : Option Command) (before after : Outside)
    (report : List Row) (finish : Finish) (old new : O) : Type 0 where
  pub text : List ℕ
  pub ended : HasEnded asked before after report finish.ending text
  pub took : Took sink.bytes sink.faults sink.grows finish.answer text old new

-- what a command left that was done
abbrev pub IsDone : Command → Outside → Outside → List Row → Type 0
IsDone (Run run) before after report = Finished (task_named run) before after report
IsDone (Make make) before after report =
    IsLeftByMade make (λ before after. Finished (task_named (run_of_make make)) before after report) before after
IsDone (Explain capture) before after report =
    (report ≡ []) × (rows : List ExplainRow) × ReadsWhole capture.max_frames before.left after.left (TellsRows rows)
IsDone (Print capture) before after report =
    (report ≡ []) × (lines : List ℕ) × ReadsWhole capture.max_frames before.left after.left (TellsLines lines)
IsDone Help before after report = report ≡ []
IsDone (Disturb disturb) before after report = Finished (task_disturbed disturb) before after report
IsDone (Serve serve) before after report =
    (report ≡ []) × (rows : List ServeRow) × IsServed (values_named serve) serve.max_events before after rows
IsDone (Show show) before after report =
    (report ≡ []) × (lines : List ℕ) × ReadsScript show.max_events before.left after.left (TellsEvents lines)
IsDone (Frames frames) before after report =
    (report ≡ []) × (lines : List ℕ) × ReadsFile frames.max_events before.left after.left (TellsFrames lines)

-- the bytes have no header of a capture, or something else than an entry stands in them
abbrev pub IsNoCapture : ℕ → List ℕ → Type 0
IsNoCapture max bytes = HasNoHeader bytes ⊎ ((offset : ℕ) × IsBrokenCapture max bytes offset)

-- nor are they those of frames whose times never fall
abbrev pub IsNoFile : ℕ → List ℕ → Type 0
IsNoFile max bytes = HasNoHeader bytes ⊎ ((offset : ℕ) × IsBrokenFile max bytes offset)

-- the script of a command is broken
abbrev pub HasBrokenScript : Command → Outside → Type 0
HasBrokenScript (Run run) before =
    IfSome before.left (λ bytes. (offset : ℕ) × IsBrokenAt run.max_events bytes offset)
HasBrokenScript (Make make) before = ⊥
HasBrokenScript (Explain capture) before = IfSome before.left (IsNoCapture capture.max_frames)
HasBrokenScript (Print capture) before = IfSome before.left (IsNoCapture capture.max_frames)
HasBrokenScript Help before = ⊥
HasBrokenScript (Disturb disturb) before =
    IfSome before.left (λ bytes. (offset : ℕ) × IsBrokenAt disturb.run.max_events bytes offset)
HasBrokenScript (Serve serve) before =
    IfSome before.left (λ bytes. (offset : ℕ) × IsBrokenAt serve.max_events bytes offset)
HasBrokenScript (Show show) before =
    IfSome before.left (λ bytes. (offset : ℕ) × IsBrokenAt show.max_events bytes offset)
HasBrokenScript (Frames frames) before = IfSome before.left (IsNoFile frames.max_events)

-- the script of a command is over the limit
abbrev pub HasLongScript : Command → Outside → Type 0
HasLongScript (Run run) before = IfSome before.left (IsOverLimit run.max_events)
HasLongScript (Make make) before = ⊥
HasLongScript (Explain capture) before = IfSome before.left (IsLongCapture capture.max_frames)
HasLongScript (Print capture) before = IfSome before.left (IsLongCapture capture.max_frames)
HasLongScript Help before = ⊥
HasLongScript (Disturb disturb) before = IfSome before.left (IsOverLimit disturb.run.max_events)
HasLongScript (Serve serve) before = IfSome before.left (IsOverLimit serve.max_events)
HasLongScript (Show show) before = IfSome before.left (IsOverLimit show.max_events)
HasLongScript (Frames frames) before = IfSome before.left (IsLongFile frames.max_events)

-- where the bytes are a capture file, the status is 0, or memory ran out
abbrev pub IsDoneIfCapture : ℕ → ℕ → List ℕ → Type 0
IsDoneIfCapture max result bytes = (entries : List CaptureEntry) → IsCaptureFile max bytes entries → IsUnlessNoMemory 0 result

abbrev pub IsDoneIfFile : ℕ → ℕ → List ℕ → Type 0
IsDoneIfFile max result bytes = (entries : List CaptureEntry) → IsFile max bytes entries → IsUnlessNoMemory 0 result

-- the status of a command that no fault of the outside stopped
abbrev pub IsComplete : Command → Outside → ℕ → Type 0
IsComplete (Run run) before result = IfSome before.left (IsStatusOf run.max_events result)
IsComplete (Make make) before result = IsUnlessNoMemory 0 result
IsComplete (Explain capture) before result = IfSome before.left (IsDoneIfCapture capture.max_frames result)
IsComplete (Print capture) before result = IfSome before.left (IsDoneIfCapture capture.max_frames result)
IsComplete Help before result = IsUnlessNoMemory 0 result
IsComplete (Disturb disturb) before result = IfSome before.left (IsStatusOf disturb.run.max_events result)
IsComplete (Serve serve) before result = IfSome before.left (IsStatusOf serve.max_events result)
IsComplete (Show show) before result = IfSome before.left (IsStatusOf show.max_events result)
IsComplete (Frames frames) before result = IfSome before.left (IsDoneIfFile frames.max_events result)

-- what the words ask for: nothing where they are refused
abbrev pub Ask : List (List ℕ) → Option Command → Type 0
Ask words None = IsTaken words → ⊥
Ask words (Some command) = Names words command

-- the words ask for a script that is made
abbrev pub AskToMake : List (List ℕ) → Type 0
AskToMake words = (make : MakeCommand) × NameWork words (Make make)

-- the commands that only read, and neither capture nor report
abbrev pub OnlyReads : Command → Type 0
OnlyReads (Run run) = ⊥
OnlyReads (Make make) = ⊥
OnlyReads (Explain capture) = ⊤
OnlyReads (Print capture) = ⊤
OnlyReads Help = ⊥
OnlyReads (Disturb disturb) = ⊥
OnlyReads (Serve serve) = ⊥
OnlyReads (Show show) = ⊤
OnlyReads (Frames frames) = ⊤

-- the words ask for one of them
abbrev pub AskToRead : List (List ℕ) → Type 0
AskToRead words = (command : Command) × NameWork words command × OnlyReads command

-- the words name no command, or ask how the program is used
abbrev pub AskForNoWork : List (List ℕ) → Type 0
AskForNoWork words = (IsTaken words → ⊥) ⊎ NameWork words Help
