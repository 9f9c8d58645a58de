-- The words of a script that is made, and what they name.
use Rattle.std.specs.Prelude.{◌≡◌, ℕ, List, [], ◌∷◌}
use Rattle.made_script.specs.Server.{host_station}
use Rattle.host_top.specs.declared.command.MakeCommand.{MakeCommand}
use Rattle.host_top.specs.declared.command.RunCommand.{RunCommand}
use Rattle.host_top.specs.RunWords.{IsCountWord, no_settings}
use Rattle.host_top.specs.Word.{IsU32Word}

-- the words are a seed and a number of events, and write what is made
pub record WritesMake (words : List (List ℕ)) (make : MakeCommand) : Type 0 where
  pub seed_word : List ℕ
  pub count_word : List ℕ
  pub are : words ≡ seed_word ∷ count_word ∷ []
  pub seed : IsU32Word seed_word make.seed
  pub count : IsCountWord count_word make.count

-- the run of a script that is made: of the host that the script is for, without settings
abbrev pub run_of_make : MakeCommand → RunCommand
run_of_make make = record {
  hardware = host_station;
  seed = make.seed;
  max_events = make.count;
  settings = no_settings;
}
