-- Frames that are too long, events without a frame, and events that come later.
use Rattle.std.proofs.Common.{◌≡◌, ℕ, ◌<◌, ◌||◌, nat_lt, pos, Bool, true, false, cond, List, [], ◌∷◌, length, refl, ap}
use Rattle.std.proofs.lemmas.Bool.{lt-ltb, or_left}
use Rattle.wire_base.specs.Xorshift.{next_word}
use Rattle.host_model.specs.Script.{Arrival, Tick, Reset, Frame, Query, Event}
use Rattle.phy_layers.specs.declared.fault_rule.Fate.TheVariants.{Dropped}
use Rattle.phy_layers.specs.declared.fault_rule.FaultOutcome.{FaultOutcome}
use Rattle.phy_layers.specs.declared.fault_rule.FaultSettings.{FaultSettings}
use Rattle.phy_layers.specs.declared.fault_rule.FaultState.{FaultState}
use Rattle.phy_layers.specs.FaultRule.{outcome, with_word, is_over, drawn_in, received_outcome, fault_outcome, frame_after}
use Rattle.host_disturb.specs.Disturbed.{received_at, arrival_passed, event_met, state_behind, disturbed_from}
use Rattle.host_disturb.specs.Laws.{IsFrameless, LongFramesAreDropped, FramesAloneDraw, LaterEventsChangeNothing}

first_of : (b : Bool) (x y : FaultOutcome) → b ≡ true → cond b x y ≡ x
first_of true x y is = refl
first_of false x y is = absurd (cc)

long_dropped : (settings : FaultSettings) (state : FaultState) (at : ℕ) (frame : List ℕ) → 1536 < length frame
    → received_at settings state at frame ≡ outcome Dropped state
unfolding fault_outcome received_outcome
long_dropped settings state at frame long =
    let len = length frame in
    first_of (nat_lt 1536 len || is_over settings.max_packet_size len) (outcome Dropped state)
    (drawn_in settings (pos at) len (with_word state (next_word state.word)))
    (or_left (nat_lt 1536 len) (is_over settings.max_packet_size len) (lt-ltb 1536 len long))

-- what is met of a frame, and behind it
abbrev met_by : FaultSettings → ℕ → List ℕ → List Event → FaultOutcome → List Event
met_by settings at frame events out =
    record { at = at; arrival = arrival_passed (frame_after out.fate frame) }
    ∷ disturbed_from settings out.state events

pub long_frames : LongFramesAreDropped
long_frames settings state at frame events long =
    ap (met_by settings at frame events) (long_dropped settings state at frame long)

frameless : (settings : FaultSettings) (state : FaultState) (at : ℕ) (arrival : Arrival) (events : List Event)
    → IsFrameless arrival
    → disturbed_from settings state (record { at = at; arrival = arrival } ∷ events)
    ≡ record { at = at; arrival = arrival } ∷ disturbed_from settings state events
frameless settings state at Tick events is = refl
frameless settings state at Reset events is = refl
frameless settings state at (Frame frame) events is = absurd is
frameless settings state at (Query type_ name) events is = refl

pub frames_alone : FramesAloneDraw
frames_alone settings state event events is = frameless settings state event.at event.arrival events is

pub later_events : LaterEventsChangeNothing
later_events settings state [] more = refl
later_events settings state (event ∷ events) more =
    ap (λ met. event_met settings state event ∷ met)
    (later_events settings (state_behind settings state event) events more)
