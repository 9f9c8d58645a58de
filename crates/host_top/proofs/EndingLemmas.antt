-- What the status says of how a command ended.
use Rattle.std.proofs.Common.{◌≡◌, ℕ, ◌*◌, List, length, Option, Some, None, Result, Ok, Err, OnOk, IfErr, IfSome, inl, inr, refl, sym, ap, ◌∙◌, arith}
use Rattle.wire_base.specs.Causes.{IsRisen}
use Rattle.host_model.specs.Script.{Event}
use Rattle.host_model.specs.Classes.{IsScript, IsBrokenAt, IsOverLimit}
use Rattle.host_model.proofs.ClassLemmas.{not_over, not_broken, over_or_broken}
use Rattle.phy_layers.specs.declared.byte_sink.SinkError.{SinkError}
use Rattle.phy_layers.specs.declared.byte_sink.SinkError.TheVariants as sink
use Rattle.net_host.specs.declared.report.Row.{Row}
use Rattle.net_host.specs.Outside.{Outside}
use Rattle.net_host.specs.Run.{Task, HasFewWords}
use Rattle.host_top.specs.declared.command.Command.{Command}
use Rattle.host_top.specs.declared.command.Command.TheVariants.{Run, Make, Explain, Print, Help, Disturb, Serve, Show, Frames}
use Rattle.host_top.specs.declared.ending.Ending.{Ending}
use Rattle.host_top.specs.declared.ending.Ending.TheVariants.{Done, Refused, Script, Limit, Entry, FrameLimit, Read, Capture, NoMemory}
use Rattle.host_top.specs.Command.{IsTaken}
use Rattle.host_top.specs.Ending.{status_of, status_after}
use Rattle.host_top.specs.HostMain.{ForNamed, IsComplete, IsDoneIfCapture, EndedAs, Ask, HasEnded}
use Rattle.capture_explain.specs.Rows.{TellsRows}
use Rattle.server_run.specs.declared.report.ServeRow.{ServeRow}
use Rattle.server_run.specs.declared.serve_error.ServeError.{ServeError}
use Rattle.server_run.specs.declared.serve_error.ServeError.TheVariants as error
use Rattle.server_run.specs.Served.{Finished as IsServed, HasCause}
use Rattle.host_top.specs.declared.serve_command.ServeCommand.{ServeCommand}
use Rattle.host_top.specs.Explain.{TellsLines}
use Rattle.host_top.specs.Serve.{ending_served, values_named}
use Rattle.host_top.specs.Status.{ComesExactly, IsStatusOf}
use Rattle.host_top.proofs.ExplainLemmas.{explain_complete, explain_unrefused}
use Rattle.host_top.proofs.ServeLemmas.{serve_unrefused}
use Rattle.script_text.specs.Shown.{ReadsWhole, HasCause as HasCauseOfShow}
use Rattle.script_text.specs.declared.showing.ShowError.{ShowError}
use Rattle.script_text.specs.declared.showing.ShowError.TheVariants as show_error
use Rattle.host_top.specs.HostMain.{IsDoneIfFile}
use Rattle.host_top.specs.Show.{ending_shown, TellsEvents}
use Rattle.host_top.proofs.ShowLemmas.{show_says, frames_says, frames_complete}

-- how what the words ask for ended, what the output answered, and the status
pub record Answered (words : List (List ℕ)) (asked : Option Command) (before after : Outside) (report : List Row) (ending : Ending)
    (text : List ℕ) (answer : Result (Unit {0}) SinkError) (result : ℕ) : Type 0 where
  pub asks : Ask words asked
  pub ended : HasEnded asked before after report ending text
  pub status : result ≡ status_after ending answer

-- a command has not the status of refused words
not_refused : (command : Command) (before after : Outside) (report : List Row) (ending : Ending) (text : List ℕ)
    → EndedAs command before after report ending text → status_of ending ≡ 1 → ⊥
not_refused command before after report Done text ended is = omega arith
not_refused (Run run) before after report Refused text ended is = ended.ran
not_refused (Make make) before after report Refused text ended is = ended.may
not_refused (Explain explain) before after report Refused text ended is =
    explain_unrefused explain.max_frames before.left after.left before.read_faults after.read_faults (TellsRows ended.rows) Refused ended.explains is
not_refused (Print print) before after report Refused text ended is =
    explain_unrefused print.max_frames before.left after.left before.read_faults after.read_faults (TellsLines ended.lines) Refused ended.prints is
not_refused Help before after report Refused text ended is = omega (arith, ap status_of ended.done)
not_refused (Disturb disturb) before after report Refused text ended is = ended.ran
not_refused (Serve serve) before after report Refused text ended is = serve_unrefused serve before after ended.rows Refused ended.serves is
not_refused (Show show) before after report Refused text ended is =
    (show_says show.max_events before.left after.left before.read_faults after.read_faults ended.lines Refused ended.shows).unrefused is
not_refused (Frames frames) before after report Refused text ended is =
    (frames_says frames.max_events before.left after.left before.read_faults after.read_faults ended.lines Refused ended.shows).unrefused is
not_refused command before after report (Script offset) text ended is = omega arith
not_refused command before after report Limit text ended is = omega arith
not_refused command before after report (Entry offset) text ended is = omega arith
not_refused command before after report FrameLimit text ended is = omega arith
not_refused command before after report Read text ended is = omega arith
not_refused command before after report Capture text ended is = omega arith
not_refused command before after report NoMemory text ended is = omega arith

-- refused words have their status, and no others have it
refused_at : (words : List (List ℕ)) (asked : Option Command) (before after : Outside) (report : List Row) (ending : Ending) (text : List ℕ)
    (answer : Result (Unit {0}) SinkError) (result : ℕ) → Ask words asked → HasEnded asked before after report ending text
    → result ≡ status_after ending answer → ComesExactly 1 (IsTaken words → ⊥) result
refused_at words asked before after report ending text (Err sink.Fault) result asks ended is =
    record { only = λ one. absurd (omega arith); always = λ _. inr (inl is) }
refused_at words asked before after report ending text (Err sink.NoMemory) result asks ended is =
    record { only = λ one. absurd (omega arith); always = λ _. inr (inr is) }
refused_at words None before after report ending text (Ok _) result asks ended is =
    record { only = λ _. asks; always = λ _. inl (is ∙ ap status_of ended.refused) }
refused_at words (Some command) before after report ending text (Ok _) result asks ended is =
    record { only = λ one. absurd (not_refused command before after report ending text ended (sym is ∙ one)); always = λ none. absurd (none (command, asks)) }

pub refused_exactly : {words : List (List ℕ)} {asked : Option Command} {before after : Outside} {report : List Row} {ending : Ending}
    {text : List ℕ} {answer : Result (Unit {0}) SinkError} {result : ℕ} → Answered words asked before after report ending text answer result
    → ComesExactly 1 (IsTaken words → ⊥) result
refused_exactly {words} {asked} {before} {after} {report} {ending} {text} {answer} {result} how =
    refused_at words asked before after report ending text answer result how.asks how.ended how.status

-- the status that the class of a script asks for
no_memory : (left : Option (List ℕ)) (max result : ℕ) → result ≡ 7 → IfSome left (IsStatusOf max result)
no_memory None max result is = tt
no_memory (Some bytes) max result is = record { valid = λ _. inr is; broken = λ _ _. inr is; over = λ _. inr is }

valid_script : (left : Option (List ℕ)) (max : ℕ) (events : List Event) (result : ℕ)
    → IfSome left (λ bytes. IsScript max bytes events) → result ≡ 0 → IfSome left (IsStatusOf max result)
valid_script None max events result script is = tt
valid_script (Some bytes) max events result script is = record {
  valid = λ _. inl is;
  broken = λ offset broken. absurd (not_broken max bytes offset events script broken);
  over = λ over. absurd (not_over max bytes events script over);
}

broken_script : (left : Option (List ℕ)) (max offset result : ℕ)
    → IfSome left (λ bytes. IsBrokenAt max bytes offset) → result ≡ 2 → IfSome left (IsStatusOf max result)
broken_script None max offset result broken is = tt
broken_script (Some bytes) max offset result broken is = record {
  valid = λ valid. absurd (not_broken max bytes offset valid.0 valid.1 broken);
  broken = λ _ _. inl is;
  over = λ over. absurd (over_or_broken max bytes offset over broken);
}

long_script : (left : Option (List ℕ)) (max result : ℕ)
    → IfSome left (IsOverLimit max) → result ≡ 3 → IfSome left (IsStatusOf max result)
long_script None max result over is = tt
long_script (Some bytes) max result over is = record {
  valid = λ valid. absurd (not_over max bytes valid.0 valid.1 over);
  broken = λ offset broken. absurd (over_or_broken max bytes offset over broken);
  over = λ _. inl is;
}

complete_served : (serve : ServeCommand) (before after : Outside) (rows : List ServeRow) (result : ℕ) (answer : Result (Unit {0}) ServeError)
    → OnOk answer (IsServed (values_named serve) serve.max_events before after rows) → IfErr answer (HasCause serve.max_events before after)
    → result ≡ status_of (ending_served answer) → (IsRisen before.read_faults after.read_faults → ⊥)
    → (IsRisen before.capture_faults after.capture_faults → ⊥) → IfSome before.left (IsStatusOf serve.max_events result)
complete_served serve before after rows result (Ok _) finished cause is read capture =
    valid_script before.left serve.max_events finished.events result finished.script is
complete_served serve before after rows result (Err (error.Script offset)) finished cause is read capture =
    broken_script before.left serve.max_events offset result cause.0 is
complete_served serve before after rows result (Err error.Limit) finished cause is read capture =
    long_script before.left serve.max_events result cause.0 is
complete_served serve before after rows result (Err error.Read) finished cause is read capture = absurd (read cause.0)
complete_served serve before after rows result (Err error.Sink) finished cause is read capture = absurd (capture cause.0)
complete_served serve before after rows result (Err error.NoMemory) finished cause is read capture =
    no_memory before.left serve.max_events result is

complete_shown : (max : ℕ) (left_old left_new : Option (List ℕ)) (faults_old faults_new : ℕ) (lines : List ℕ) (result : ℕ) (answer : Result (Unit {0}) ShowError)
    → OnOk answer (ReadsWhole max left_old left_new (TellsEvents lines)) → IfErr answer (HasCauseOfShow max left_old faults_old faults_new)
    → result ≡ status_of (ending_shown answer) → (IsRisen faults_old faults_new → ⊥) → IfSome left_old (IsStatusOf max result)
complete_shown max left_old left_new faults_old faults_new lines result (Ok _) whole cause is read =
    valid_script left_old max whole.events result whole.script is
complete_shown max left_old left_new faults_old faults_new lines result (Err (show_error.Script offset)) whole cause is read =
    broken_script left_old max offset result cause.0 is
complete_shown max left_old left_new faults_old faults_new lines result (Err show_error.Limit) whole cause is read =
    long_script left_old max result cause.0 is
complete_shown max left_old left_new faults_old faults_new lines result (Err show_error.Read) whole cause is read = absurd (read cause)
complete_shown max left_old left_new faults_old faults_new lines result (Err show_error.NoMemory) whole cause is read =
    no_memory left_old max result is

complete_of : (command : Command) (before after : Outside) (report : List Row) (ending : Ending) (text : List ℕ) (result : ℕ)
    → EndedAs command before after report ending text → result ≡ status_of ending
    → (IsRisen before.read_faults after.read_faults → ⊥) → (IsRisen before.capture_faults after.capture_faults → ⊥)
    → IsComplete command before result
complete_of (Run run) before after report Done text result ended is read capture =
    valid_script before.left run.max_events ended.ran.0.events result ended.ran.0.script is
complete_of (Run run) before after report Refused text result ended is read capture = absurd ended.ran
complete_of (Run run) before after report (Script offset) text result ended is read capture =
    broken_script before.left run.max_events offset result ended.ran.1.0 is
complete_of (Run run) before after report Limit text result ended is read capture = long_script before.left run.max_events result ended.ran.1.0 is
complete_of (Run run) before after report (Entry offset) text result ended is read capture = absurd ended.ran
complete_of (Run run) before after report FrameLimit text result ended is read capture = absurd ended.ran
complete_of (Run run) before after report Read text result ended is read capture = absurd (read ended.ran.1.0)
complete_of (Run run) before after report Capture text result ended is read capture = absurd (capture ended.ran.1.0)
complete_of (Run run) before after report NoMemory text result ended is read capture = no_memory before.left run.max_events result is
complete_of (Make make) before after report Done text result ended is read capture = inl is
complete_of (Make make) before after report Refused text result ended is read capture = absurd ended.may
complete_of (Make make) before after report (Script offset) text result ended is read capture = absurd ended.may
complete_of (Make make) before after report Limit text result ended is read capture = absurd ended.may
complete_of (Make make) before after report (Entry offset) text result ended is read capture = absurd ended.may
complete_of (Make make) before after report FrameLimit text result ended is read capture = absurd ended.may
complete_of (Make make) before after report Read text result ended is read capture = absurd ended.may
complete_of (Make make) before after report Capture text result ended is read capture = absurd (capture ended.left.left.1.0)
complete_of (Make make) before after report NoMemory text result ended is read capture = inr is
complete_of (Explain explain) before after report ending text result ended is read capture =
    explain_complete explain.max_frames before.left after.left before.read_faults after.read_faults (TellsRows ended.rows) ending result ended.explains is read
complete_of (Print print) before after report ending text result ended is read capture =
    explain_complete print.max_frames before.left after.left before.read_faults after.read_faults (TellsLines ended.lines) ending result ended.prints is read
complete_of (Serve serve) before after report ending text result ended is read capture =
    complete_served serve before after ended.rows result ended.serves.answer ended.serves.finished ended.serves.cause (is ∙ ap status_of ended.serves.ends) read capture
complete_of (Show show) before after report ending text result ended is read capture =
    complete_shown show.max_events before.left after.left before.read_faults after.read_faults ended.lines result ended.shows.answer ended.shows.whole ended.shows.cause
    (is ∙ ap status_of ended.shows.ends) read
complete_of (Frames frames) before after report ending text result ended is read capture =
    frames_complete frames.max_events before.left after.left before.read_faults after.read_faults ended.lines ending result ended.shows is read
complete_of Help before after report ending text result ended is read capture = inl (is ∙ ap status_of ended.done)
complete_of (Disturb disturb) before after report Done text result ended is read capture =
    valid_script before.left disturb.run.max_events ended.ran.0.events result ended.ran.0.script is
complete_of (Disturb disturb) before after report Refused text result ended is read capture = absurd ended.ran
complete_of (Disturb disturb) before after report (Script offset) text result ended is read capture =
    broken_script before.left disturb.run.max_events offset result ended.ran.1.0 is
complete_of (Disturb disturb) before after report Limit text result ended is read capture =
    long_script before.left disturb.run.max_events result ended.ran.1.0 is
complete_of (Disturb disturb) before after report (Entry offset) text result ended is read capture = absurd ended.ran
complete_of (Disturb disturb) before after report FrameLimit text result ended is read capture = absurd ended.ran
complete_of (Disturb disturb) before after report Read text result ended is read capture = absurd (read ended.ran.1.0)
complete_of (Disturb disturb) before after report Capture text result ended is read capture = absurd (capture ended.ran.1.0)
complete_of (Disturb disturb) before after report NoMemory text result ended is read capture =
    no_memory before.left disturb.run.max_events result is

unless_no_memory : (max : ℕ) (left : Option (List ℕ)) (result : ℕ) → result ≡ 7
    → IfSome left (IsDoneIfCapture max result)
unless_no_memory max None result is = tt
unless_no_memory max (Some bytes) result is = λ entries file. inr is

unless_no_memory_file : (max : ℕ) (left : Option (List ℕ)) (result : ℕ) → result ≡ 7 → IfSome left (IsDoneIfFile max result)
unless_no_memory_file max None result is = tt
unless_no_memory_file max (Some bytes) result is = λ entries file. inr is

complete_at_7 : (command : Command) (before : Outside) (result : ℕ) → result ≡ 7 → IsComplete command before result
complete_at_7 (Run run) before result is = no_memory before.left run.max_events result is
complete_at_7 (Make make) before result is = inr is
complete_at_7 (Explain explain) before result is = unless_no_memory explain.max_frames before.left result is
complete_at_7 (Print print) before result is = unless_no_memory print.max_frames before.left result is
complete_at_7 Help before result is = inr is
complete_at_7 (Disturb disturb) before result is = no_memory before.left disturb.run.max_events result is
complete_at_7 (Serve serve) before result is = no_memory before.left serve.max_events result is
complete_at_7 (Show show) before result is = no_memory before.left show.max_events result is
complete_at_7 (Frames frames) before result is = unless_no_memory_file frames.max_events before.left result is

complete_at : (words : List (List ℕ)) (asked : Option Command) (before after : Outside) (report : List Row) (ending : Ending) (text : List ℕ)
    (answer : Result (Unit {0}) SinkError) (result : ℕ) → Ask words asked → HasEnded asked before after report ending text
    → result ≡ status_after ending answer
    → IsTaken words → (IsRisen before.read_faults after.read_faults → ⊥) → (IsRisen before.capture_faults after.capture_faults → ⊥)
    → (answer ≡ Err sink.Fault → ⊥) → ForNamed words (λ command. IsComplete command before result)
complete_at words None before after report ending text answer result asks ended is taken read capture output = absurd (asks taken)
complete_at words (Some command) before after report ending text (Err sink.Fault) result asks ended is taken read capture output = absurd (output refl)
complete_at words (Some command) before after report ending text (Err sink.NoMemory) result asks ended is taken read capture output =
    (command, asks, complete_at_7 command before result is)
complete_at words (Some command) before after report ending text (Ok _) result asks ended is taken read capture output =
    (command, asks, complete_of command before after report ending text result ended is read capture)

pub complete_named : {words : List (List ℕ)} {asked : Option Command} {before after : Outside} {report : List Row} {ending : Ending}
    {text : List ℕ} {answer : Result (Unit {0}) SinkError} {result : ℕ} → Answered words asked before after report ending text answer result
    → IsTaken words
    → (IsRisen before.read_faults after.read_faults → ⊥) → (IsRisen before.capture_faults after.capture_faults → ⊥)
    → (answer ≡ Err sink.Fault → ⊥) → ForNamed words (λ command. IsComplete command before result)
complete_named {words} {asked} {before} {after} {report} {ending} {text} {answer} {result} how =
    complete_at words asked before after report ending text answer result how.asks how.ended how.status

-- three words for each event are enough
pub never_short : (task : Task) (before : Outside) → length task.words ≡ 3 * task.max → HasFewWords task before → ⊥
never_short task before counted out = omega (arith, out.short, out.few, counted)
