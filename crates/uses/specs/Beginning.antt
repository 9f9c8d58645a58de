-- How a script begins.
use Rattle.std.specs.Prelude.{◌≡◌, ℕ, List, ◌++◌, ℤ, pos}
use Rattle.host_model.specs.Script.{Event, IsNext, Spells}

-- an event at a time stands whole at the front of the script, and may come first
pub record BeginsAt (script : List ℕ) (time : ℤ) : Type 0 where
  pub event : Event
  pub front : List ℕ
  pub rest : List ℕ
  pub first : IsNext 0 event
  pub spelled : Spells event front
  pub whole : script ≡ front ++ rest
  pub at : time ≡ pos event.at
