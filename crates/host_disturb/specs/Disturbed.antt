-- A script that comes over a bad link. Each frame meets the rule for received frames (`FaultRule` of
-- `phy_layers`) at its time, with the state that the frames before it left. A frame that passes stands in its
-- place as it came out, and one that is dropped leaves a tick of the same time. All else stays, and draws
-- nothing.
use Rattle.std.specs.Prelude.{ℕ, List, [], ◌∷◌, length, Option, Some, None, pos}
use Rattle.host_model.specs.Script.{Arrival, Tick, Reset, Frame, Query, Event}
use Rattle.phy_layers.specs.declared.capabilities.TracerDirection.TheVariants.{RX}
use Rattle.phy_layers.specs.declared.fault_rule.FaultOutcome.{FaultOutcome}
use Rattle.phy_layers.specs.declared.fault_rule.FaultSettings.{FaultSettings}
use Rattle.phy_layers.specs.declared.fault_rule.FaultState.{FaultState}
use Rattle.phy_layers.specs.FaultRule.{fault_outcome, frame_after}
use Rattle.host_disturb.specs.declared.fault_values.FaultValues.{FaultValues}

-- the rule's settings: one rate for both ways
abbrev pub settings_for : FaultValues → FaultSettings
settings_for faults = record {
  corrupt_chance = faults.corrupt_chance;
  drop_chance = faults.drop_chance;
  max_packet_size = faults.max_size;
  max_tx_rate = faults.rate;
  max_rx_rate = faults.rate;
  bucket_interval = faults.interval;
}

-- the rule's state before any frame: both buckets are empty
abbrev pub fresh_state : ℕ → FaultState
fresh_state seed = record { word = seed; refilled_at = pos 0; tx_bucket = 0; rx_bucket = 0 }

-- what the rule says of a frame that arrives at a time
abbrev pub received_at : FaultSettings → FaultState → ℕ → List ℕ → FaultOutcome
received_at settings state at frame = fault_outcome settings state RX (pos at) (length frame)

-- what arrives of a frame: nothing but its time, where it was dropped
abbrev pub arrival_passed : Option (List ℕ) → Arrival
arrival_passed None = Tick
arrival_passed (Some frame) = Frame frame

-- what arrives in place of what an event brings
abbrev pub arrival_met : FaultSettings → FaultState → ℕ → Arrival → Arrival
arrival_met settings state at Tick = Tick
arrival_met settings state at Reset = Reset
arrival_met settings state at (Frame frame) =
    arrival_passed (frame_after (received_at settings state at frame).fate frame)
arrival_met settings state at (Query type_ name) = Query type_ name

-- the state that it leaves
abbrev pub state_met : FaultSettings → FaultState → ℕ → Arrival → FaultState
state_met settings state at Tick = state
state_met settings state at Reset = state
state_met settings state at (Frame frame) = (received_at settings state at frame).state
state_met settings state at (Query type_ name) = state

abbrev pub event_met : FaultSettings → FaultState → Event → Event
event_met settings state event =
    record { at = event.at; arrival = arrival_met settings state event.at event.arrival }

abbrev pub state_behind : FaultSettings → FaultState → Event → FaultState
state_behind settings state event = state_met settings state event.at event.arrival

-- the events that are met from a state on
abbrev pub disturbed_from : FaultSettings → FaultState → List Event → List Event
disturbed_from settings state [] = []
disturbed_from settings state (event ∷ events) =
    event_met settings state event ∷ disturbed_from settings (state_behind settings state event) events

-- the events that are met in place of a script's
abbrev pub disturbed : FaultValues → List Event → List Event
disturbed faults events = disturbed_from (settings_for faults) (fresh_state faults.seed) events
