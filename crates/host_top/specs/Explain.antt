-- The words that name an explanation or a printing of a capture, and what these leave.
use Rattle.std.specs.Prelude.{◌≡◌, ℕ, ◌≤◌, List, [], ◌∷◌, Option, Result, Ok, Err, OnOk, IfErr}
use Rattle.capture_explain.specs.declared.error.ExplainError.{ExplainError}
use Rattle.capture_explain.specs.declared.error.ExplainError.TheVariants as error
use Rattle.capture_explain.specs.declared.explanation.ExplainRow.{ExplainRow}
use Rattle.capture_explain.specs.Capture.{CaptureEntry}
use Rattle.capture_explain.specs.Explained.{ReadsWhole, Stops, HasCause, Completes}
use Rattle.capture_explain.specs.PrintText.{print_bytes}
use Rattle.capture_explain.specs.Rows.{TellsRows}
use Rattle.host_top.specs.declared.ending.Ending.{Ending}
use Rattle.host_top.specs.declared.ending.Ending.TheVariants.{Done, Entry, FrameLimit, Read, NoMemory}
use Rattle.host_top.specs.declared.capture_command.CaptureCommand.{CaptureCommand}
use Rattle.host_top.specs.Word.{IsNumberWord}

-- one to six decimal digits, from 1 to 100000
pub record IsFrameCountWord (word : List ℕ) (count : ℕ) : Type 0 where
  pub writes : IsNumberWord 10 6 word count
  pub some : 1 ≤ count
  pub limit : count ≤ 100000

-- the word is the most frames
pub record WritesCapture (words : List (List ℕ)) (capture : CaptureCommand) : Type 0 where
  pub max_word : List ℕ
  pub are : words ≡ max_word ∷ []
  pub max : IsFrameCountWord max_word capture.max_frames

-- what it relies on
pub record IsReadable (capture : CaptureCommand) : Type 0 where
  pub some : 1 ≤ capture.max_frames
  pub limit : capture.max_frames ≤ 100000

-- how it ended, by its answer: a capture without a header is broken at its first byte
abbrev pub ending_explained : Result (Unit {0}) ExplainError → Ending
ending_explained (Ok _) = Done
ending_explained (Err error.Header) = Entry 0
ending_explained (Err (error.Entry offset)) = Entry offset
ending_explained (Err error.Limit) = FrameLimit
ending_explained (Err error.Read) = Read
ending_explained (Err error.NoMemory) = NoMemory

-- What a reading of at most `max` frames left when it ended so, and why: by its answer the bytes of the capture that
-- were left in the source before and after it, the count of the source's faults, and what was told of the entries.
pub record ReadsAs (max : ℕ) (left_old left_new : Option (List ℕ)) (faults_old faults_new : ℕ)
    (Tells : List CaptureEntry → Type 0) (ending : Ending) : Type 0 where
  pub answer : Result (Unit {0}) ExplainError
  pub ends : ending ≡ ending_explained answer
  pub whole : OnOk answer (ReadsWhole max left_old left_new Tells)
  pub quiet : OnOk answer (faults_new ≡ faults_old)
  pub stops : IfErr answer (Stops max left_old left_new Tells)
  pub cause : IfErr answer (HasCause max left_old faults_old faults_new)
  pub complete : Completes max left_old faults_old faults_new answer

-- an explanation tells the rows of the entries
abbrev pub ExplainsAs : ℕ → Option (List ℕ) → Option (List ℕ) → ℕ → ℕ → List ExplainRow → Ending → Type 0
ExplainsAs max left_old left_new faults_old faults_new rows ending =
    ReadsAs max left_old left_new faults_old faults_new (TellsRows rows) ending

-- a printing their text
abbrev pub TellsLines : List ℕ → List CaptureEntry → Type 0
TellsLines lines entries = lines ≡ print_bytes entries

abbrev pub PrintsAs : ℕ → Option (List ℕ) → Option (List ℕ) → ℕ → ℕ → List ℕ → Ending → Type 0
PrintsAs max left_old left_new faults_old faults_new lines ending =
    ReadsAs max left_old left_new faults_old faults_new (TellsLines lines) ending
