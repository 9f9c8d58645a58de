-- The words of a run, and what they name.
use Rattle.std.specs.Prelude.{◌≡◌, ℕ, ◌*◌, ◌≤◌, false, List, ◌∷◌, None, IfSome, option_map, unwrap_or}
use Rattle.net_wire.specs.Arrival.{is_group}
use Rattle.host_model.specs.Settings.{Settings}
use Rattle.net_host.specs.Config.{default_host}
use Rattle.host_top.specs.declared.command.RunCommand.{RunCommand}
use Rattle.host_top.specs.declared.setting.RunSettings.{RunSettings}
use Rattle.host_top.specs.Setting.{Sets}
use Rattle.host_top.specs.Word.{IsNumberWord, IsU32Word, IsAddressWord}

-- one to five decimal digits, from 1 to 10000
pub record IsCountWord (word : List ℕ) (count : ℕ) : Type 0 where
  pub writes : IsNumberWord 10 5 word count
  pub some : 1 ≤ count
  pub limit : count ≤ 10000

-- the words are a hardware address, a seed, the most events and settings, and write the run
pub record WritesRun (words : List (List ℕ)) (run : RunCommand) : Type 0 where
  pub hardware_word : List ℕ
  pub seed_word : List ℕ
  pub max_word : List ℕ
  pub setting_words : List (List ℕ)
  pub are : words ≡ hardware_word ∷ seed_word ∷ max_word ∷ setting_words
  pub hardware : IsAddressWord hardware_word run.hardware
  pub seed : IsU32Word seed_word run.seed
  pub max : IsCountWord max_word run.max_events
  pub settings : Sets setting_words run.settings

-- no word sets anything
abbrev pub no_settings : RunSettings
no_settings = record { ip_mtu = None; max_lease_secs = None; ignore_naks = None }

-- what a run relies on: its hardware address is that of one station, its MTU is one of Ethernet, and there is a
-- number of events
pub record IsRunnable (run : RunCommand) : Type 0 where
  pub individual : is_group run.hardware.0 ≡ false
  pub mtu : IfSome run.settings.ip_mtu (λ bytes. (576 ≤ bytes) × (bytes ≤ 1500))
  pub some : 1 ≤ run.max_events
  pub limit : run.max_events ≤ 10000

-- The settings of the host of a run. Where no word has the key, the MTU is 1500, leases are not cut down, and
-- refusals of servers are obeyed; a longest lease is written in seconds, and a host counts microseconds.
abbrev pub settings_named : RunCommand → Settings
settings_named run = default_host run.hardware (unwrap_or run.settings.ip_mtu 1500)
    (option_map (λ secs. secs * 1000000) run.settings.max_lease_secs) (unwrap_or run.settings.ignore_naks false)
