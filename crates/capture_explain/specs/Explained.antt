-- What an explanation of a capture leaves, whatever it answers.
use Rattle.std.specs.Prelude.{◌≡◌, ℕ, ◌<◌, ◌≤◌, ◌⊎◌, List, [], ◌++◌, Option, length, IfSome, Result, IsOk}
use Rattle.std.specs.Result.{IsErrOf}
use Rattle.std.specs.Io.KnownBytes.{Consumes, IsAtEnd}
use Rattle.wire_base.specs.Causes.{IsRisen}
use Rattle.capture_explain.specs.Capture.{CaptureEntry, entry_bytes, IsEntry, IsFront, IsCaptureFile, HasNoHeader, IsBrokenAt, IsOverLimit}
use Rattle.capture_explain.specs.Reading.{CutsHeader, EndsEntry}
use Rattle.capture_explain.specs.Rows.{TellsRows}
use Rattle.capture_explain.specs.declared.error.ExplainError.{ExplainError}
use Rattle.capture_explain.specs.declared.error.ExplainError.TheVariants.{Header, Entry, Limit, Read, NoMemory}
use Rattle.capture_explain.specs.declared.explanation.ExplainRow.{ExplainRow}

-- A capture was read to its end. Where the source told its bytes, they were a capture file of at most `max` entries,
-- and this was told of its entries.
pub record ReadsWhole (max : ℕ) (left_old left_new : Option (List ℕ)) (Tells : List CaptureEntry → Type 0)
    : Type 0 where
  pub entries : List CaptureEntry
  pub file : IfSome left_old (λ bytes. IsCaptureFile max bytes entries)
  pub few : length entries ≤ max
  pub tells : Tells entries
  pub ended : IsAtEnd left_new

-- what was taken from the source: a header and at most `max` entries, of which this was told, and a part behind them
pub record Taken (max : ℕ) (left_old left_new : Option (List ℕ)) (Tells : List CaptureEntry → Type 0)
    : Type 0 where
  pub entries : List CaptureEntry
  pub front : List ℕ
  pub part : List ℕ
  pub is_front : IsFront entries front
  pub few : length entries ≤ max
  pub tells : Tells entries
  pub took : Consumes left_old left_new (front ++ part)

-- it ended behind some entries
pub record Stopped (max : ℕ) (left_old left_new : Option (List ℕ)) (Tells : List CaptureEntry → Type 0)
    (Ends : Taken max left_old left_new Tells → Type 0) : Type 0 where
  pub taken : Taken max left_old left_new Tells
  pub ends : Ends taken

-- no byte was taken
pub record IsUntouched (left_old left_new : Option (List ℕ)) (Tells : List CaptureEntry → Type 0) : Type 0 where
  pub none : Tells []
  pub stays : left_new ≡ left_old

-- of the last entry that was taken nothing is told
pub record LacksLast (max : ℕ) (left_old left_new : Option (List ℕ)) (Tells : List CaptureEntry → Type 0)
    : Type 0 where
  pub entries : List CaptureEntry
  pub front : List ℕ
  pub entry : CaptureEntry
  pub is_front : IsFront entries front
  pub few : length entries < max
  pub fits : IsEntry entry
  pub tells : Tells entries
  pub took : Consumes left_old left_new (front ++ entry_bytes entry)

-- the header is not read whole, and no entry is told of
pub record LacksHeader (error : ExplainError) (left_old left_new : Option (List ℕ)) (Tells : List CaptureEntry → Type 0)
    : Type 0 where
  pub none : Tells []
  pub cuts : CutsHeader error left_old left_new

-- What was taken and told where it did not end well, by its answer.
abbrev pub Stops : ℕ → Option (List ℕ) → Option (List ℕ) → (List CaptureEntry → Type 0) → ExplainError → Type 0
Stops max left_old left_new Tells Header = LacksHeader Header left_old left_new Tells
Stops max left_old left_new Tells (Entry offset) = Stopped max left_old left_new Tells
    (λ taken. (length taken.entries < max) × (offset ≡ length taken.front)
    × EndsEntry (Entry offset) left_new taken.part)
Stops max left_old left_new Tells Limit = Stopped max left_old left_new Tells
    (λ taken. (length taken.entries ≡ max) × EndsEntry Limit left_new taken.part)
Stops max left_old left_new Tells Read = LacksHeader Read left_old left_new Tells
    ⊎ Stopped max left_old left_new Tells
    (λ taken. (0 < length taken.part → length taken.entries < max) × EndsEntry Read left_new taken.part)
Stops max left_old left_new Tells NoMemory =
    IsUntouched left_old left_new Tells ⊎ LacksLast max left_old left_new Tells

-- The rows are those of the entries that were read, to the end or up to where it stopped.
abbrev pub Explained : ℕ → Option (List ℕ) → Option (List ℕ) → List ExplainRow → Type 0
Explained max left_old left_new rows = ReadsWhole max left_old left_new (TellsRows rows)

abbrev pub Leaves : ℕ → Option (List ℕ) → Option (List ℕ) → List ExplainRow → ExplainError → Type 0
Leaves max left_old left_new rows error = Stops max left_old left_new (TellsRows rows) error

-- Why it did not end well, by its answer: the bytes of the file, or a count of faults that rose; want of memory is
-- free. The count did not change otherwise.
abbrev pub HasCause : ℕ → Option (List ℕ) → ℕ → ℕ → ExplainError → Type 0
HasCause max left before after Header = IfSome left HasNoHeader × (after ≡ before)
HasCause max left before after (Entry offset) =
    IfSome left (λ bytes. IsBrokenAt max bytes offset) × (after ≡ before)
HasCause max left before after Limit = IfSome left (IsOverLimit max) × (after ≡ before)
HasCause max left before after Read = IsRisen before after
HasCause max left before after NoMemory = after ≡ before

-- A capture file of at most `max` entries, with no fault of the source, is explained unless memory runs out.
abbrev pub Completes : ℕ → Option (List ℕ) → ℕ → ℕ → Result (Unit {0}) ExplainError → Type 0
Completes max left before after result = IfSome left (λ bytes. (entries : List CaptureEntry)
    → IsCaptureFile max bytes entries → ¬ IsRisen before after → IsOk result ⊎ IsErrOf result NoMemory)
