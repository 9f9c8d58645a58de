-- What a link makes of the events of a run, one event more.
use Rattle.std.proofs.Common.{◌≡◌, ℕ, ℤ, pos, List, [], ◌∷◌, ◌++◌, Option, ap, sym, subst, ◌∙◌, append_assoc}
use Rattle.phy_layers.specs.PcapBytes.{epoch_micros}
use Rattle.host_model.specs.Script.{Event}
use Rattle.script_reader.specs.ReaderState.{ReaderState}
use Rattle.script_reader.specs.Reading.{event_at, event_with, GivesNext}
use Rattle.script_reader.specs.declared.script.EventHead.{EventHead}
use Rattle.script_reader.specs.declared.script.ScriptEvent.{ScriptEvent}

-- a reader that passed an event on is where it was
pub record IsAtSame (old new : ReaderState) : Type 0 where
  pub offset : new.offset ≡ old.offset
  pub events : new.events ≡ old.events
  pub last : new.last ≡ old.last

-- An event was read, and the host meets what the link made of it, as it was told that id.
pub record MeetsEvent (max : ℕ) (old new : ReaderState) (left_old left_new : Option (List ℕ)) (makes makes_next : (List Event → ℕ) → List Event → List Event)
    (id : ℕ) (at : ℤ) (event : ScriptEvent) : Type 0 where
  pub read : Event
  pub behind : ReaderState
  pub time : at ≡ pos (epoch_micros at)
  pub gives : GivesNext max old behind left_old left_new read
  pub stays : IsAtSame behind new
  pub passes : (told : List Event → ℕ) → told [] ≡ id → (more : List Event)
      → makes told (read ∷ more) ≡ event_at at event ∷ makes_next (λ met. told (event_at at event ∷ met)) more
  pub ends : (told : List Event → ℕ) → makes_next told [] ≡ []

-- an event that was read and passed on
pub met_event : (max : ℕ) (old behind new : ReaderState) (left_old left_new : Option (List ℕ)) (makes makes_next : (List Event → ℕ) → List Event → List Event)
    (id : ℕ) (head met : EventHead) (at : ℤ) (event : ScriptEvent)
    → GivesNext max old behind left_old left_new (event_with head behind.brought)
    → ((told : List Event → ℕ) → told [] ≡ id → (more : List Event)
    → makes told (event_with head behind.brought ∷ more)
    ≡ event_with met new.brought ∷ makes_next (λ later. told (event_with met new.brought ∷ later)) more)
    → ((told : List Event → ℕ) → makes_next told [] ≡ [])
    → new ≡ record behind { brought = new.brought }
    → event_at at event ≡ event_with met new.brought → at ≡ pos met.micros
    → MeetsEvent max old new left_old left_new makes makes_next id at event
met_event max old behind new left_old left_new makes makes_next id head met at event gives passes ends stays is_event is_time =
    let P : Event → Type 0 = λ e. (told : List Event → ℕ) → told [] ≡ id → (more : List Event)
    → makes told (event_with head behind.brought ∷ more) ≡ e ∷ makes_next (λ later. told (e ∷ later)) more in
    record {
      read = event_with head behind.brought;
      behind = behind;
      time = is_time ∙ ap pos (sym (ap epoch_micros is_time));
      gives = gives;
      stays = record {
        offset = ap (λ (s : ReaderState). s.offset) stays;
        events = ap (λ (s : ReaderState). s.events) stays;
        last = ap (λ (s : ReaderState). s.last) stays;
      };
      passes = subst P (sym is_event) passes;
      ends = ends;
    }

-- the events to come go on behind those that were met
pub link_goes_on : (link : List Event → List Event) (makes makes_next : (List Event → ℕ) → List Event → List Event) (told : List Event → ℕ)
    (events : List Event) (read met : Event)
    → ((more : List Event) → link (events ++ more) ≡ link events ++ makes told more)
    → ((more : List Event) → makes told (read ∷ more) ≡ met ∷ makes_next (λ later. told (met ∷ later)) more)
    → (more : List Event) → link ((events ++ read ∷ []) ++ more) ≡ (link events ++ met ∷ []) ++ makes_next (λ later. told (met ∷ later)) more
link_goes_on link makes makes_next told events read met linked passes more =
    ap link (append_assoc events (read ∷ []) more) ∙ linked (read ∷ more) ∙ ap (λ l. link events ++ l) (passes more)
    ∙ sym (append_assoc (link events) (met ∷ []) (makes_next (λ later. told (met ∷ later)) more))

-- the host met one event more
pub link_push : (link : List Event → List Event) (makes makes_next : (List Event → ℕ) → List Event → List Event) (told : List Event → ℕ)
    (events : List Event) (read met : Event)
    → ((more : List Event) → link (events ++ more) ≡ link events ++ makes told more)
    → ((more : List Event) → makes told (read ∷ more) ≡ met ∷ makes_next (λ later. told (met ∷ later)) more)
    → makes_next (λ later. told (met ∷ later)) [] ≡ []
    → link (events ++ read ∷ []) ≡ link events ++ met ∷ []
link_push link makes makes_next told events read met linked passes ends =
    linked (read ∷ []) ∙ ap (λ l. link events ++ l) (passes [] ∙ ap (λ l. met ∷ l) ends)
