-- What becomes of events one by one, and what is kept by that: their number, their times and their words.
use Rattle.std.proofs.Common.{◌≡◌, ℕ, List, [], ◌∷◌, length, map, Option, Some, None, pos, refl, ap, ◌∙◌, inl, inr, arith}
use Rattle.host_model.specs.Chronicle.{entry_at, history_from, words_at}
use Rattle.host_model.specs.History.{Entry}
use Rattle.host_model.specs.Script.{Arrival, Tick, Reset, Frame, Query, Event}
use Rattle.host_model.specs.Settings.{Settings}
use Rattle.host_model.specs.declared.words.EventWords.{EventWords}
use Rattle.phy_layers.proofs.FaultLemmas.{whole_or_one_bit}
use Rattle.phy_layers.specs.declared.capabilities.TracerDirection.TheVariants.{RX}
use Rattle.phy_layers.specs.declared.fault_rule.FaultSettings.{FaultSettings}
use Rattle.phy_layers.specs.declared.fault_rule.FaultState.{FaultState}
use Rattle.phy_layers.specs.FaultRule.{frame_after}
use Rattle.host_disturb.specs.Disturbed.{received_at, arrival_passed, arrival_met, state_behind, disturbed_from}
use Rattle.host_disturb.specs.Laws.{times_of}
use Rattle.host_disturb.specs.Met.{MayBring, AreMet}

frame_met : (settings : FaultSettings) (state : FaultState) (at : ℕ) (frame : List ℕ) (out : Option (List ℕ))
    → frame_after (received_at settings state at frame).fate frame ≡ out → MayBring (Frame frame) (arrival_passed out)
frame_met settings state at frame None is = inl refl
frame_met settings state at frame (Some passed) is =
    inr (passed, refl, whole_or_one_bit settings state RX (pos at) frame passed is)

may_bring : (settings : FaultSettings) (state : FaultState) (at : ℕ) (arrival : Arrival)
    → MayBring arrival (arrival_met settings state at arrival)
may_bring settings state at Tick = refl
may_bring settings state at Reset = refl
may_bring settings state at (Frame frame) =
    frame_met settings state at frame (frame_after (received_at settings state at frame).fate frame) refl
may_bring settings state at (Query type_ name) = refl

pub are_met : (settings : FaultSettings) (state : FaultState) (events : List Event)
    → AreMet events (disturbed_from settings state events)
are_met settings state [] = tt
are_met settings state (event ∷ events) = (
  record { time = refl; arrival = may_bring settings state event.at event.arrival },
  are_met settings (state_behind settings state event) events,
)

pub number_met : (events met : List Event) → AreMet events met → length met ≡ length events
number_met [] [] are = refl
number_met [] (first ∷ rest) are = absurd are
number_met (event ∷ events) [] are = absurd are
number_met (event ∷ events) (first ∷ rest) are = omega (arith, number_met events rest are.1)

pub times_met : (events met : List Event) → AreMet events met → times_of met ≡ times_of events
times_met [] [] are = refl
times_met [] (first ∷ rest) are = absurd are
times_met (event ∷ events) [] are = absurd are
times_met (event ∷ events) (first ∷ rest) are =
    ap (λ at. at ∷ times_of rest) are.0.time ∙ ap (λ times. event.at ∷ times) (times_met events rest are.1)

-- the words of entries
abbrev words_in : List Entry → List EventWords
words_in entries = map (λ entry. entry.words) entries

-- entries that are as many and have the same words stay so
pub words_met : (settings : Settings) (words : List ℕ) (before other : List Entry) (events met : List Event)
    → length other ≡ length before → words_in other ≡ words_in before → AreMet events met
    → words_in (history_from settings words other met) ≡ words_in (history_from settings words before events)
words_met settings words before other [] [] number same are = same
words_met settings words before other [] (first ∷ rest) number same are = absurd are
words_met settings words before other (event ∷ events) [] number same are = absurd are
words_met settings words before other (event ∷ events) (first ∷ rest) number same are =
    words_met settings words (entry_at settings words before event ∷ before)
    (entry_at settings words other first ∷ other) events rest (omega (arith, number))
    (ap (λ place. words_at words place ∷ words_in other) number
    ∙ ap (λ drawn. words_at words (length before) ∷ drawn) same)
    are.1
