-- Events whose text is read again.
use Rattle.std.specs.Prelude.{ℕ, ◌≤◌, List, length}
use Rattle.host_model.specs.Script.{Event, AreInOrder}
use Rattle.script_text.specs.EventText.{events_text}
use Rattle.script_text.specs.Meaning.{IsRight}
use Rattle.script_text.specs.TextLaws.{AreOfBytes}

-- The events are those of a script, and no more than there may be; their text is right, and has them.
pub record AreReadAgain (max : ℕ) (events : List Event) : Type 0 where
  pub in_order : AreInOrder 0 events
  pub few : length events ≤ max
  pub of_bytes : AreOfBytes events
  pub right : IsRight max (events_text events) events
