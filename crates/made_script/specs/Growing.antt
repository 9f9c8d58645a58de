-- Bytes of a script that grow by one event.
use Rattle.std.specs.Prelude.{◌≡◌, ℕ, List, ◌++◌}
use Rattle.host_model.specs.Script.{Event, IsArrival, Spells}
use Rattle.made_script.specs.Made.{IsMadeAt}

-- the new bytes are the old ones and behind them the event
pub record Gains (event : Event) (old new : List ℕ) : Type 0 where
  pub front : List ℕ
  pub spelled : Spells event front
  pub grown : new ≡ old ++ front

-- the event is the one that the words make at the place
pub record GainsMade (words : List ℕ) (place : ℕ) (old new : List ℕ) : Type 0 where
  pub event : Event
  pub made : IsMadeAt words place event
  pub arrival : IsArrival event.arrival
  pub gains : Gains event old new
