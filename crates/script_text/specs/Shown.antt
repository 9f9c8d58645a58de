-- What is left where a script was shown, whatever the answer.
use Rattle.std.specs.Prelude.{◌≡◌, ℕ, ◌<◌, ◌⊎◌, List, [], ◌++◌, Option, length, IfSome, Result, Ok, IsOk}
use Rattle.std.specs.Result.{IsErrOf}
use Rattle.std.specs.Io.KnownBytes.{Consumes, IsAtEnd}
use Rattle.wire_base.specs.Causes.{IsRisen}
use Rattle.phy_layers.specs.declared.byte_sink.ByteSink as byte_sink
use Rattle.phy_layers.specs.declared.byte_sink.SinkError.{SinkError}
use Rattle.phy_layers.specs.Sink.{Took}
use Rattle.host_model.specs.Script.{Event, SpellsAll, last_time}
use Rattle.host_model.specs.Classes.{IsScript, IsOverLimit, IsBrokenAt}
use Rattle.script_reader.specs.Reading.{EndsWith}
use Rattle.script_reader.specs.declared.script.ReadEventError.{ReadEventError}
use Rattle.script_reader.specs.declared.script.ReadEventError.TheVariants as read
use Rattle.capture_explain.specs.Text.{Puts}
use Rattle.script_text.specs.EventText.{events_text}
use Rattle.script_text.specs.ReadAgain.{AreReadAgain}
use Rattle.script_text.specs.declared.showing.ShowError.{ShowError}
use Rattle.script_text.specs.declared.showing.ShowError.TheVariants.{Script, Limit, Read, NoMemory}

-- The text of some events was handed to a sink behind what was handed to it before; where nothing was refused before, it
-- took the text, or a front of it.
pub record PutsEvents {O : Type 0} (sink : byte_sink.Ghosts O) (before after : Result (Unit {0}) SinkError)
    (old new : O) (events : List Event) : Type 0 where
  pub puts : Puts sink.bytes sink.faults sink.grows before after (events_text events) old new
  pub took : before ≡ Ok tt → Took sink.bytes sink.faults sink.grows after (events_text events) old new

-- A script was read to its end. Where the source told its bytes, they were a script of these events, and this
-- was told of them.
pub record ReadsWhole (max : ℕ) (left_old left_new : Option (List ℕ)) (Tells : List Event → Type 0) : Type 0 where
  pub events : List Event
  pub script : IfSome left_old (λ bytes. IsScript max bytes events)
  pub read_again : AreReadAgain max events
  pub tells : Tells events
  pub ended : IsAtEnd left_new

-- what was taken from the source: events, whole and in order, of together `front`, of which this was told, and
-- a part behind them
pub record Taken (max : ℕ) (left_old left_new : Option (List ℕ)) (Tells : List Event → Type 0) : Type 0 where
  pub events : List Event
  pub front : List ℕ
  pub part : List ℕ
  pub read_again : AreReadAgain max events
  pub spelled : SpellsAll events front
  pub tells : Tells events
  pub took : Consumes left_old left_new (front ++ part)

-- it stopped behind some events
pub record Stopped (max : ℕ) (left_old left_new : Option (List ℕ)) (Tells : List Event → Type 0)
    (Ends : Taken max left_old left_new Tells → Type 0) : Type 0 where
  pub taken : Taken max left_old left_new Tells
  pub ends : Ends taken

-- no byte was taken
pub record IsUntouched (left_old left_new : Option (List ℕ)) (Tells : List Event → Type 0) : Type 0 where
  pub none : Tells []
  pub stays : left_new ≡ left_old

-- the part behind the events is what the reader takes that answers so
abbrev pub EndsBy : {max : ℕ} {left_old left_new : Option (List ℕ)} {Tells : List Event → Type 0}
    → ReadEventError → Taken max left_old left_new Tells → Type 0
EndsBy {max} {left_old} {left_new} {Tells} error taken =
    EndsWith error (last_time 0 taken.events) left_new taken.part

-- What was taken and told where it did not end well, by its answer.
abbrev pub Stops : ℕ → Option (List ℕ) → Option (List ℕ) → (List Event → Type 0) → ShowError → Type 0
Stops max left_old left_new Tells (Script offset) = Stopped max left_old left_new Tells
    (λ taken. (offset ≡ length taken.front) × EndsBy (read.Script offset) taken)
Stops max left_old left_new Tells Limit = Stopped max left_old left_new Tells
    (λ taken. (length taken.events ≡ max) × EndsBy read.Limit taken)
Stops max left_old left_new Tells Read = Stopped max left_old left_new Tells
    (λ taken. (0 < length taken.part → length taken.events < max) × EndsBy read.Read taken)
Stops max left_old left_new Tells NoMemory = IsUntouched left_old left_new Tells

-- Why it did not end well, by its answer: the bytes of the script, or a count of faults that rose; want of
-- memory is free. The count did not change otherwise.
abbrev pub HasCause : ℕ → Option (List ℕ) → ℕ → ℕ → ShowError → Type 0
HasCause max left before after (Script offset) =
    IfSome left (λ bytes. IsBrokenAt max bytes offset) × (after ≡ before)
HasCause max left before after Limit = IfSome left (IsOverLimit max) × (after ≡ before)
HasCause max left before after Read = IsRisen before after
HasCause max left before after NoMemory = after ≡ before

-- A valid script, with no fault of the source, is shown unless memory runs out.
abbrev pub Completes : ℕ → Option (List ℕ) → ℕ → ℕ → Result (Unit {0}) ShowError → Type 0
Completes max left before after result = IfSome left (λ bytes. (events : List Event)
    → IsScript max bytes events → ¬ IsRisen before after → IsOk result ⊎ IsErrOf result NoMemory)
