-- What is left where the frames of a capture were shown, whatever the answer.
use Rattle.std.specs.Prelude.{◌≡◌, ℕ, ◌<◌, ◌≤◌, ◌⊎◌, List, ◌++◌, Option, length, map, IfSome, Result, IsOk}
use Rattle.std.specs.Result.{IsErrOf}
use Rattle.std.specs.Io.KnownBytes.{Consumes, IsAtEnd}
use Rattle.wire_base.specs.Causes.{IsRisen}
use Rattle.phy_layers.specs.declared.byte_sink.ByteSink as byte_sink
use Rattle.phy_layers.specs.declared.byte_sink.SinkError.{SinkError}
use Rattle.capture_explain.specs.Capture.{CaptureEntry, entry_bytes, IsEntry, HasNoHeader}
use Rattle.capture_explain.specs.Explained.{IsUntouched, LacksHeader}
use Rattle.capture_explain.specs.Reading.{EndsEntry}
use Rattle.capture_explain.specs.declared.error.ExplainError.{ExplainError}
use Rattle.capture_explain.specs.declared.error.ExplainError.TheVariants.{Header, Entry, Limit, Read, NoMemory}
use Rattle.script_text.specs.CapturedFrames.{IsFront, IsFile, IsNextEntry, IsBrokenAt, IsOverLimit, entry_event, last_time}
use Rattle.script_text.specs.ReadAgain.{AreReadAgain}
use Rattle.script_text.specs.Shown.{PutsEvents}

-- The text of the frames of some entries was handed to a sink behind what was handed to it before.
abbrev pub PutsFrames : {O : Type 0} → byte_sink.Ghosts O → Result (Unit {0}) SinkError → Result (Unit {0}) SinkError
    → O → O → List CaptureEntry → Type 0
PutsFrames sink before after old new entries = PutsEvents sink before after old new (map entry_event entries)

-- A capture was read to its end. Where the source told its bytes, they were a file of these entries, and this
-- was told of them.
pub record ReadsWhole (max : ℕ) (left_old left_new : Option (List ℕ)) (Tells : List CaptureEntry → Type 0)
    : Type 0 where
  pub entries : List CaptureEntry
  pub file : IfSome left_old (λ bytes. IsFile max bytes entries)
  pub read_again : AreReadAgain max (map entry_event entries)
  pub tells : Tells entries
  pub ended : IsAtEnd left_new

-- what was taken from the source: a header and entries, whole and in order, of together `front`, of which this
-- was told, and a part behind them
pub record Taken (max : ℕ) (left_old left_new : Option (List ℕ)) (Tells : List CaptureEntry → Type 0)
    : Type 0 where
  pub entries : List CaptureEntry
  pub front : List ℕ
  pub part : List ℕ
  pub is_front : IsFront entries front
  pub few : length entries ≤ max
  pub read_again : AreReadAgain max (map entry_event entries)
  pub tells : Tells entries
  pub took : Consumes left_old left_new (front ++ part)

-- it stopped behind some entries
pub record Stopped (max : ℕ) (left_old left_new : Option (List ℕ)) (Tells : List CaptureEntry → Type 0)
    (Ends : Taken max left_old left_new Tells → Type 0) : Type 0 where
  pub taken : Taken max left_old left_new Tells
  pub ends : Ends taken

-- a whole entry that may not come at the time `last` or later
pub record IsRefusedEntry (last : ℕ) (part : List ℕ) : Type 0 where
  pub entry : CaptureEntry
  pub fits : IsEntry entry
  pub whole : part ≡ entry_bytes entry
  pub wrong : ¬ IsNextEntry last entry

-- What was taken and told where it did not end well, by its answer.
abbrev pub Stops : ℕ → Option (List ℕ) → Option (List ℕ) → (List CaptureEntry → Type 0) → ExplainError → Type 0
Stops max left_old left_new Tells Header = LacksHeader Header left_old left_new Tells
Stops max left_old left_new Tells (Entry offset) = Stopped max left_old left_new Tells
    (λ taken. (length taken.entries < max) × (offset ≡ length taken.front)
    × (EndsEntry (Entry offset) left_new taken.part
    ⊎ IsRefusedEntry (last_time 0 taken.entries) taken.part))
Stops max left_old left_new Tells Limit = Stopped max left_old left_new Tells
    (λ taken. (length taken.entries ≡ max) × EndsEntry Limit left_new taken.part)
Stops max left_old left_new Tells Read = LacksHeader Read left_old left_new Tells
    ⊎ Stopped max left_old left_new Tells
    (λ taken. (0 < length taken.part → length taken.entries < max) × EndsEntry Read left_new taken.part)
Stops max left_old left_new Tells NoMemory = IsUntouched left_old left_new Tells

-- Why it did not end well, by its answer: the bytes of the file, or a count of faults that rose; want of
-- memory is free. The count did not change otherwise.
abbrev pub HasCause : ℕ → Option (List ℕ) → ℕ → ℕ → ExplainError → Type 0
HasCause max left before after Header = IfSome left HasNoHeader × (after ≡ before)
HasCause max left before after (Entry offset) =
    IfSome left (λ bytes. IsBrokenAt max bytes offset) × (after ≡ before)
HasCause max left before after Limit = IfSome left (IsOverLimit max) × (after ≡ before)
HasCause max left before after Read = IsRisen before after
HasCause max left before after NoMemory = after ≡ before

-- A file of frames, with no fault of the source, is shown unless memory runs out.
abbrev pub Completes : ℕ → Option (List ℕ) → ℕ → ℕ → Result (Unit {0}) ExplainError → Type 0
Completes max left before after result = IfSome left (λ bytes. (entries : List CaptureEntry)
    → IsFile max bytes entries → ¬ IsRisen before after → IsOk result ⊎ IsErrOf result NoMemory)
