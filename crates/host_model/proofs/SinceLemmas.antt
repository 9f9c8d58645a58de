-- The messages since a place.
use Rattle.std.proofs.Common.{◌≡◌, ℕ, suc, ◌-◌, ◌≤◌, List, [], ◌∷◌, length, take, ap, arith}
use Rattle.host_model.specs.History.{Entry, sent_times, times_since, with_time}

-- none was sent since what comes next
pub none_since : (before : List Entry) → times_since (length before) before ≡ []
none_since before =
    let none : length before - length before ≡ 0 = omega arith in
    ap (λ n. sent_times (take n before)) none

-- what an event sent is what was sent last since any place before it
pub more_since : (place : ℕ) (before : List Entry) (entry : Entry) → place ≤ length before
    → times_since place (entry ∷ before) ≡ with_time entry.sent entry.event.at (times_since place before)
more_since place before entry within =
    let more : length (entry ∷ before) - place ≡ suc (length before - place) = omega arith in
    ap (λ n. sent_times (take n (entry ∷ before))) more
