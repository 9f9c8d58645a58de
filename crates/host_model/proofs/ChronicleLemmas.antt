-- One event more is one entry more.
use Rattle.std.proofs.Common.{◌≡◌, ℕ, ◌+◌, List, [], ◌∷◌, ◌++◌, length, refl, arith}
use Rattle.host_model.specs.Script.{Event}
use Rattle.host_model.specs.Settings.{Settings}
use Rattle.host_model.specs.History.{Entry}
use Rattle.host_model.specs.Chronicle.{entry_at, history_from}

pub history_from-push : (settings : Settings) (words : List ℕ) (before : List Entry) (events : List Event) (event : Event)
    → history_from settings words before (events ++ event ∷ []) ≡ entry_at settings words (history_from settings words before events) event ∷ history_from settings words before events
history_from-push settings words before [] event = refl
history_from-push settings words before (first ∷ events) event =
    history_from-push settings words (entry_at settings words before first ∷ before) events event

pub length-history_from : (settings : Settings) (words : List ℕ) (before : List Entry) (events : List Event)
    → length (history_from settings words before events) ≡ length before + length events
length-history_from settings words before [] = omega arith
length-history_from settings words before (event ∷ events) =
    omega (arith, length-history_from settings words (entry_at settings words before event ∷ before) events)
