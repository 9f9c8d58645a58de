-- What a contract sees of a link that disturbs.
use Rattle.std.specs.Prelude.{ℕ, List}
use Rattle.host_model.specs.Script.{Event}
use Rattle.host_disturb.specs.declared.disturber.Disturber.{Disturber}
use Rattle.host_disturb.specs.declared.fault_values.FaultValues.{FaultValues}
use Rattle.host_disturb.specs.Disturbed.{settings_for, fresh_state, disturbed_from}

-- the link before any event: nothing was dropped yet
abbrev pub disturber_of : FaultValues → Disturber
disturber_of faults = record {
  layer = record { settings = settings_for faults; state = fresh_state faults.seed; dropped = 0 };
}

-- what it makes of the events to come, whatever the host sends
abbrev pub makes_of : Disturber → (List Event → ℕ) → List Event → List Event
makes_of link told events = disturbed_from link.layer.settings link.layer.state events
