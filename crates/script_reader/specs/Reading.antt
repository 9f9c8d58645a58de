-- What a reader of events gives.
use Rattle.std.specs.Prelude.{◌≡◌, ℕ, ◌<◌, ◌⊎◌, List, length, ℤ, pos, Option}
use Rattle.std.specs.Io.KnownBytes.{Consumes, IsAtEnd}
use Rattle.phy_layers.specs.PcapBytes.{epoch_micros}
use Rattle.host_model.specs.Script.{Arrival, Tick, Reset, Frame, Query, Event, Spells, IsNext}
use Rattle.host_model.specs.Parts.{IsInside, IsRefused}
use Rattle.script_reader.specs.declared.script.EventKind.{EventKind}
use Rattle.script_reader.specs.declared.script.EventKind.TheVariants as kind
use Rattle.script_reader.specs.declared.script.EventHead.{EventHead}
use Rattle.script_reader.specs.declared.script.ScriptEvent.{ScriptEvent}
use Rattle.script_reader.specs.declared.script.ScriptEvent.TheVariants as script
use Rattle.script_reader.specs.declared.script.ReadEventError.{ReadEventError}
use Rattle.script_reader.specs.declared.script.ReadEventError.TheVariants.{Script, Limit, Read}
use Rattle.script_reader.specs.ReaderState.{ReaderState, moved_by, through_with}

-- what a reader gives, as what an event brings
abbrev pub arrival_of : ScriptEvent → Arrival
arrival_of script.Tick = Tick
arrival_of script.Reset = Reset
arrival_of (script.Frame bytes) = Frame bytes.now
arrival_of (script.Query name query_type) = Query query_type name.now

-- and at a time, as an event of the script
abbrev pub event_at : ℤ → ScriptEvent → Event
event_at at event = record { at = epoch_micros at; arrival = arrival_of event }

-- what an event of a kind brings, with the bytes of its frame or its name
abbrev pub arrival_with : EventKind → List ℕ → Arrival
arrival_with kind.Tick brought = Tick
arrival_with kind.Reset brought = Reset
arrival_with kind.Frame brought = Frame brought
arrival_with (kind.Query query_type) brought = Query query_type brought

-- and with its head, as an event of the script
abbrev pub event_with : EventHead → List ℕ → Event
event_with head brought = record { at = head.micros; arrival = arrival_with head.kind brought }

-- The next event: it stood whole in front of what was left, and may come next.
pub record GivesNext (max : ℕ) (old new : ReaderState) (left_old left_new : Option (List ℕ)) (event : Event)
    : Type 0 where
  pub front : List ℕ
  pub within : old.events < max
  pub next : IsNext old.last event
  pub spelled : Spells event front
  pub took : Consumes left_old left_new front
  pub moved : new ≡ moved_by max (length front) event.at new.brought old

-- and its time, and what it brings
pub record GivesEvent (max : ℕ) (old new : ReaderState) (left_old left_new : Option (List ℕ))
    (at : ℤ) (event : ScriptEvent) : Type 0 where
  pub time : at ≡ pos (epoch_micros at)
  pub gives : GivesNext max old new left_old left_new (event_at at event)

-- nothing was left
pub record IsThrough (max : ℕ) (old new : ReaderState) (left_old left_new : Option (List ℕ)) : Type 0 where
  pub was_at_end : IsAtEnd left_old
  pub at_end : IsAtEnd left_new
  pub stays : new ≡ through_with max old

-- the input ended inside an event
pub record EndsInside (last : ℕ) (left : Option (List ℕ)) (part : List ℕ) : Type 0 where
  pub some : 0 < length part
  pub inside : IsInside last part
  pub at_end : IsAtEnd left

-- What was taken behind the last event, by the answer: the parts up to the one that is refused, or all that
-- there was of them; one byte; the parts before the failure.
abbrev pub EndsWith : ReadEventError → ℕ → Option (List ℕ) → List ℕ → Type 0
EndsWith (Script offset) last left part = IsRefused last part ⊎ EndsInside last left part
EndsWith Limit last left part = length part ≡ 1
EndsWith Read last left part = IsInside last part

-- No event, by this answer: it took no more than it had to. Behind the last event that there may be a source
-- fails only where no byte was taken.
pub record RefusesEvent (max : ℕ) (old new : ReaderState) (left_old left_new : Option (List ℕ))
    (error : ReadEventError) : Type 0 where
  pub part : List ℕ
  pub took : Consumes left_old left_new part
  pub ends : EndsWith error old.last left_new part
  pub tried : error ≡ Read → 0 < length part → old.events < max
  pub stays : new ≡ through_with max old
