-- The times of a script's entries never fall.
use Rattle.std.proofs.Common.{ℕ, ◌≤◌, List, [], ◌∷◌, arith}
use Rattle.host_model.specs.Chronicle.{entry_at, history_from}
use Rattle.host_model.specs.History.{Entry}
use Rattle.host_model.specs.QuerySends.{AreRising, newest_time}
use Rattle.host_model.specs.Script.{AreInOrder, Event}
use Rattle.host_model.specs.Settings.{Settings}

pub rises : (settings : Settings) (words : List ℕ) (before : List Entry) (last : ℕ) (events : List Event)
    → newest_time before ≤ last → AreInOrder last events → AreRising before
    → AreRising (history_from settings words before events)
rises settings words before last [] newest in_order rising = rising
rises settings words before last (event ∷ events) newest in_order rising =
    rises settings words (entry_at settings words before event ∷ before) event.at events (omega arith) in_order.1
    (omega (arith, newest, in_order.0.not_before), rising)
