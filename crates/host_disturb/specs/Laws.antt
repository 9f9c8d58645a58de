-- What holds of every script that comes over a bad link.
use Rattle.std.specs.Prelude.{◌≡◌, ℕ, ◌<◌, ◌≤◌, ⊤, List, [], ◌∷◌, ◌++◌, length, map}
use Rattle.host_model.specs.declared.words.EventWords.{EventWords}
use Rattle.host_model.specs.Chronicle.{history}
use Rattle.host_model.specs.Classes.{IsScript}
use Rattle.host_model.specs.Script.{Arrival, Tick, Reset, Frame, Query, Event}
use Rattle.host_model.specs.Settings.{Settings}
use Rattle.phy_layers.specs.declared.fault_rule.FaultSettings.{FaultSettings}
use Rattle.phy_layers.specs.declared.fault_rule.FaultState.{FaultState}
use Rattle.host_disturb.specs.declared.fault_values.FaultValues.{FaultValues}
use Rattle.host_disturb.specs.Disturbed.{disturbed, disturbed_from, state_behind}
use Rattle.host_disturb.specs.Met.{AreMet}

abbrev pub times_of : List Event → List ℕ
times_of events = map (λ event. event.at) events

-- the words that a host draws for each event, newest first
abbrev pub words_of : Settings → List ℕ → List Event → List EventWords
words_of settings words events = map (λ entry. entry.words) (history settings words events)

-- There are as many events as the script has, at its times, and each has the words that it has in the script.
pub record KeepsEvents (faults : FaultValues) (events : List Event) : Type 0 where
  pub number : length (disturbed faults events) ≡ length events
  pub times : times_of (disturbed faults events) ≡ times_of events
  pub words : (settings : Settings) (words : List ℕ)
      → words_of settings words (disturbed faults events) ≡ words_of settings words events

abbrev pub EventsAreKept : Type 0
EventsAreKept = (faults : FaultValues) (events : List Event) → KeepsEvents faults events

-- Each event is met in its place: a frame whole, with one other bit, or as a tick.
abbrev pub EachIsMet : Type 0
EachIsMet = (faults : FaultValues) (events : List Event) → AreMet events (disturbed faults events)

-- What is met in place of a script's events are the events of a script.
abbrev pub ScriptsStayScripts : Type 0
ScriptsStayScripts = (faults : FaultValues) (max : ℕ) (bytes : List ℕ) (events : List Event)
    → IsScript max bytes events → (spelled : List ℕ) × IsScript max spelled (disturbed faults events)

-- a link with no chance, no size limit and no rate
pub record IsGood (faults : FaultValues) : Type 0 where
  pub drop : faults.drop_chance ≡ 0
  pub corrupt : faults.corrupt_chance ≡ 0
  pub size : faults.max_size ≡ 0
  pub rate : faults.rate ≡ 0

-- no frame is longer than the rule lets pass
abbrev pub IsShort : Arrival → Type 0
IsShort Tick = ⊤
IsShort Reset = ⊤
IsShort (Frame frame) = length frame ≤ 1536
IsShort (Query type_ name) = ⊤

abbrev pub AreShort : List Event → Type 0
AreShort [] = ⊤
AreShort (event ∷ events) = IsShort event.arrival × AreShort events

-- Over such a link such a script is itself, whatever the seed and the interval are.
abbrev pub GoodLinksChangeNothing : Type 0
GoodLinksChangeNothing = (faults : FaultValues) (events : List Event)
    → IsGood faults → AreShort events → disturbed faults events ≡ events

-- A frame of more than 1536 bytes leaves a tick, whatever the values are, and draws nothing.
abbrev pub LongFramesAreDropped : Type 0
LongFramesAreDropped = (settings : FaultSettings) (state : FaultState) (at : ℕ) (frame : List ℕ)
    (events : List Event) → 1536 < length frame
    → disturbed_from settings state (record { at = at; arrival = Frame frame } ∷ events)
    ≡ record { at = at; arrival = Tick } ∷ disturbed_from settings state events

-- An event without a frame is itself and draws nothing: what follows meets the same rule in the same state.
abbrev pub IsFrameless : Arrival → Type 0
IsFrameless Tick = ⊤
IsFrameless Reset = ⊤
IsFrameless (Frame frame) = ⊥
IsFrameless (Query type_ name) = ⊤

abbrev pub FramesAloneDraw : Type 0
FramesAloneDraw = (settings : FaultSettings) (state : FaultState) (event : Event) (events : List Event)
    → IsFrameless event.arrival
    → disturbed_from settings state (event ∷ events) ≡ event ∷ disturbed_from settings state events

-- the state behind events
abbrev pub state_behind_all : FaultSettings → FaultState → List Event → FaultState
state_behind_all settings state [] = state
state_behind_all settings state (event ∷ events) =
    state_behind_all settings (state_behind settings state event) events

-- What becomes of events does not depend on those that come later, which go on with the state that is left.
abbrev pub LaterEventsChangeNothing : Type 0
LaterEventsChangeNothing = (settings : FaultSettings) (state : FaultState) (events more : List Event)
    → disturbed_from settings state (events ++ more)
    ≡ disturbed_from settings state events
    ++ disturbed_from settings (state_behind_all settings state events) more
