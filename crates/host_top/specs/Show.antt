-- The words that name a text of a script or of the frames of a capture, and what these leave.
use Rattle.std.specs.Prelude.{◌≡◌, ℕ, ◌≤◌, List, [], ◌∷◌, ◌++◌, Option, Result, Ok, Err, OnOk, IfErr, codes, map}
use Rattle.capture_explain.specs.declared.error.ExplainError.{ExplainError}
use Rattle.capture_explain.specs.Capture.{CaptureEntry}
use Rattle.host_model.specs.Script.{Event}
use Rattle.script_text.specs.CapturedFrames.{entry_event}
use Rattle.script_text.specs.EventText.{events_text}
use Rattle.script_text.specs.Shown.{ReadsWhole, Stops, HasCause, Completes}
use Rattle.script_text.specs.ShownFrames.{ReadsWhole as ReadsFile, Stops as StopsFrames, HasCause as HasCauseOfFrames, Completes as CompletesFrames}
use Rattle.script_text.specs.declared.showing.ShowError.{ShowError}
use Rattle.script_text.specs.declared.showing.ShowError.TheVariants as error
use Rattle.host_top.specs.declared.ending.Ending.{Ending}
use Rattle.host_top.specs.declared.ending.Ending.TheVariants.{Done, Script, Limit, Read, NoMemory}
use Rattle.host_top.specs.declared.show_command.ShowCommand.{ShowCommand}
use Rattle.host_top.specs.Ending.{last_line}
use Rattle.host_top.specs.Explain.{ending_explained}
use Rattle.host_top.specs.RunWords.{IsCountWord}

-- the word is the most events
pub record WritesShow (words : List (List ℕ)) (show : ShowCommand) : Type 0 where
  pub max_word : List ℕ
  pub are : words ≡ max_word ∷ []
  pub max : IsCountWord max_word show.max_events

-- what it relies on
pub record IsShowable (show : ShowCommand) : Type 0 where
  pub limit : show.max_events ≤ 10000

-- the last line of the output, as a comment of the text
abbrev pub remark_of : Ending → List ℕ
remark_of ending = codes "# " ++ last_line ending

-- how it ended, by its answer
abbrev pub ending_shown : Result (Unit {0}) ShowError → Ending
ending_shown (Ok _) = Done
ending_shown (Err (error.Script offset)) = Script offset
ending_shown (Err error.Limit) = Limit
ending_shown (Err error.Read) = Read
ending_shown (Err error.NoMemory) = NoMemory

-- the lines are the text of the events, and of the frames of the entries
abbrev pub TellsEvents : List ℕ → List Event → Type 0
TellsEvents lines events = lines ≡ events_text events

abbrev pub TellsFrames : List ℕ → List CaptureEntry → Type 0
TellsFrames lines entries = lines ≡ events_text (map entry_event entries)

-- What a text of a script of at most `max` events left when it ended so, and why: by its answer the bytes of the script
-- that were left in the source before and after it, the count of the source's faults, and the lines.
pub record ShowsAs (max : ℕ) (left_old left_new : Option (List ℕ)) (faults_old faults_new : ℕ) (lines : List ℕ)
    (ending : Ending) : Type 0 where
  pub answer : Result (Unit {0}) ShowError
  pub ends : ending ≡ ending_shown answer
  pub whole : OnOk answer (ReadsWhole max left_old left_new (TellsEvents lines))
  pub quiet : OnOk answer (faults_new ≡ faults_old)
  pub stops : IfErr answer (Stops max left_old left_new (TellsEvents lines))
  pub cause : IfErr answer (HasCause max left_old faults_old faults_new)
  pub complete : Completes max left_old faults_old faults_new answer

-- and a text of the frames of a capture of at most `max`
pub record FramesAs (max : ℕ) (left_old left_new : Option (List ℕ)) (faults_old faults_new : ℕ) (lines : List ℕ)
    (ending : Ending) : Type 0 where
  pub answer : Result (Unit {0}) ExplainError
  pub ends : ending ≡ ending_explained answer
  pub whole : OnOk answer (ReadsFile max left_old left_new (TellsFrames lines))
  pub quiet : OnOk answer (faults_new ≡ faults_old)
  pub stops : IfErr answer (StopsFrames max left_old left_new (TellsFrames lines))
  pub cause : IfErr answer (HasCauseOfFrames max left_old faults_old faults_new)
  pub complete : CompletesFrames max left_old faults_old faults_new answer
