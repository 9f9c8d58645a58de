-- The words that name a run over a bad link, and what that leaves.
use Rattle.std.specs.Prelude.{◌≡◌, ℕ, ◌≤◌, List, length}
use Rattle.host_disturb.specs.declared.fault_values.FaultValues.{FaultValues}
use Rattle.host_disturb.specs.Disturbed.{disturbed}
use Rattle.net_host.specs.declared.report.Row.{Row}
use Rattle.net_host.specs.Outside.{Outside}
use Rattle.net_host.specs.Run.{Task, task_over}
use Rattle.host_top.specs.declared.disturb_command.DisturbCommand.{DisturbCommand}
use Rattle.host_top.specs.declared.ending.Ending.{Ending}
use Rattle.host_top.specs.RunWords.{IsCountWord, IsRunnable, no_settings, settings_named}
use Rattle.host_top.specs.Generator.{event_words}
use Rattle.host_top.specs.Ran.{RanAs}
use Rattle.host_top.specs.Word.{IsNumberWord, IsU32Word, IsAddressWord, argument_at}

-- one to three decimal digits, at most 100
pub record IsChanceWord (word : List ℕ) (chance : ℕ) : Type 0 where
  pub writes : IsNumberWord 10 3 word chance
  pub limit : chance ≤ 100

-- the words are a hardware address, a seed, the most events, the seed of the faults and two chances
pub record WritesDisturb (words : List (List ℕ)) (disturb : DisturbCommand) : Type 0 where
  pub six : length words ≡ 6
  pub hardware : IsAddressWord (argument_at words 0) disturb.run.hardware
  pub seed : IsU32Word (argument_at words 1) disturb.run.seed
  pub max : IsCountWord (argument_at words 2) disturb.run.max_events
  pub plain : disturb.run.settings ≡ no_settings
  pub fault_seed : IsU32Word (argument_at words 3) disturb.fault_seed
  pub drop : IsChanceWord (argument_at words 4) disturb.drop_chance
  pub corrupt : IsChanceWord (argument_at words 5) disturb.corrupt_chance

-- no size limit and no rate
abbrev pub faults_named : DisturbCommand → FaultValues
faults_named disturb = record {
  seed = disturb.fault_seed;
  drop_chance = disturb.drop_chance;
  corrupt_chance = disturb.corrupt_chance;
  max_size = 0;
  rate = 0;
  interval = 0;
}

-- what the run relies on
pub record IsDisturbable (disturb : DisturbCommand) : Type 0 where
  pub run : IsRunnable disturb.run
  pub drop : disturb.drop_chance ≤ 100
  pub corrupt : disturb.corrupt_chance ≤ 100

-- what the run is told: the events that come of the script's over the bad link are those that it answers
abbrev pub task_disturbed : DisturbCommand → Task
task_disturbed disturb =
    task_over (disturbed (faults_named disturb)) (settings_named disturb.run) (event_words disturb.run) disturb.run.max_events

-- what it left when it ended so
abbrev pub DisturbedTo : DisturbCommand → Outside → Outside → List Row → Ending → Type 0
DisturbedTo disturb before after report ending = RanAs (task_disturbed disturb) before after report ending
