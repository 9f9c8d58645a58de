-- The entries of a host that was handed a tick, an offer and an acknowledgement.
use Rattle.std.specs.Prelude.{ℕ, List, []}
use Rattle.host_model.specs.declared.words.EventWords.{EventWords}
use Rattle.host_model.specs.History.{Entry}
use Rattle.host_model.specs.Script.{Tick, Frame}
use Rattle.host_model.specs.Settings.{Settings}
use Rattle.net_host.specs.Stepping.{entries_with}

abbrev pub leasing : Settings → ℕ → EventWords → List ℕ → List ℕ → List Entry
leasing settings at words offer acknowledgement =
    entries_with settings
    (entries_with settings (entries_with settings [] at Tick words) at (Frame offer) words) at (Frame acknowledgement) words
