-- A link with no chance, no size limit and no rate leaves each frame as it is that is not too long.
use Rattle.std.proofs.Common.{◌≡◌, ℕ, ◌%◌, ◌≤◌, ◌==◌, ◌||◌, nat_lt, ℤ, pos, Bool, true, false, cond, List, [], ◌∷◌, length, refl, ap, sym, subst, ◌∙◌, arith}
use Rattle.std.proofs.lemmas.Bool.{le-ltb, or_from}
use Rattle.wire_base.specs.Xorshift.{next_word}
use Rattle.host_model.specs.Script.{Arrival, Tick, Reset, Frame, Query, Event}
use Rattle.phy_layers.specs.declared.fault_rule.Fate.TheVariants.{Dropped, Whole}
use Rattle.phy_layers.specs.declared.fault_rule.FaultOutcome.{FaultOutcome}
use Rattle.phy_layers.specs.declared.fault_rule.FaultSettings.{FaultSettings}
use Rattle.phy_layers.specs.declared.fault_rule.FaultState.{FaultState}
use Rattle.phy_layers.specs.FaultRule.{outcome, with_word, hits, is_over, flipped, corrupted, refilled, taken_in, rated_in, drawn_in, received_outcome, fault_outcome, frame_after}
use Rattle.host_disturb.specs.Disturbed.{received_at, arrival_passed, arrival_met, state_behind, disturbed_from}
use Rattle.host_disturb.specs.Laws.{IsShort, AreShort}

pub otherwise : (b : Bool) (x y : FaultOutcome) → b ≡ false → cond b x y ≡ y
otherwise true x y is = absurd (cc)
otherwise false x y is = refl

never_hits : (word chance : ℕ) → chance ≡ 0 → hits word chance ≡ false
never_hits word chance none = ap (hits word) none ∙ le-ltb (word % 100) 0 (omega arith)

-- the settings of such a link
pub record IsStill (settings : FaultSettings) : Type 0 where
  pub drop : settings.drop_chance ≡ 0
  pub corrupt : settings.corrupt_chance ≡ 0
  pub size : settings.max_packet_size ≡ 0
  pub rate : settings.max_rx_rate ≡ 0

corrupted_whole : (settings : FaultSettings) (len : ℕ) (state : FaultState) → IsStill settings
    → (corrupted settings len state).fate ≡ Whole
unfolding corrupted
corrupted_whole settings len state still =
    let word = next_word state.word in
    ap (λ out. out.fate) (otherwise (hits word settings.corrupt_chance) (flipped len (with_word state word))
    (outcome Whole (with_word state word)) (never_hits word settings.corrupt_chance still.corrupt))

rated_whole : (settings : FaultSettings) (now : ℤ) (len : ℕ) (state : FaultState) → IsStill settings
    → (rated_in settings now len state).fate ≡ Whole
unfolding rated_in
rated_whole settings now len state still =
    let P : ℕ → Type 0 = λ rate.
    (cond (rate == 0) (corrupted settings len state) (taken_in settings len (refilled settings now state))).fate
    ≡ Whole in
    subst P (sym still.rate) (corrupted_whole settings len state still)

drawn_whole : (settings : FaultSettings) (now : ℤ) (len : ℕ) (state : FaultState) → IsStill settings
    → (drawn_in settings now len state).fate ≡ Whole
unfolding drawn_in
drawn_whole settings now len state still =
    ap (λ out. out.fate) (otherwise (hits state.word settings.drop_chance) (outcome Dropped state)
    (rated_in settings now len state) (never_hits state.word settings.drop_chance still.drop))
    ∙ rated_whole settings now len state still

not_over : (limit len : ℕ) → limit ≡ 0 → is_over limit len ≡ false
not_over limit len none = ap (λ limit. is_over limit len) none

pub received_whole : (settings : FaultSettings) (state : FaultState) (at : ℕ) (frame : List ℕ)
    → IsStill settings → length frame ≤ 1536 → (received_at settings state at frame).fate ≡ Whole
unfolding fault_outcome received_outcome
received_whole settings state at frame still short =
    let len = length frame in
    let drawn = with_word state (next_word state.word) in
    ap (λ out. out.fate) (otherwise (nat_lt 1536 len || is_over settings.max_packet_size len)
    (outcome Dropped state) (drawn_in settings (pos at) len drawn)
    (or_from (nat_lt 1536 len) (is_over settings.max_packet_size len) (le-ltb 1536 len short)
    (not_over settings.max_packet_size len still.size)))
    ∙ drawn_whole settings (pos at) len drawn still

same_arrival : (settings : FaultSettings) (state : FaultState) (at : ℕ) (arrival : Arrival) → IsStill settings
    → IsShort arrival → arrival_met settings state at arrival ≡ arrival
same_arrival settings state at Tick still short = refl
same_arrival settings state at Reset still short = refl
same_arrival settings state at (Frame frame) still short =
    ap (λ fate. arrival_passed (frame_after fate frame)) (received_whole settings state at frame still short)
same_arrival settings state at (Query type_ name) still short = refl

-- an event of these parts
abbrev event_of : ℕ → Arrival → Event
event_of at arrival = record { at = at; arrival = arrival }

pub same_events : (settings : FaultSettings) (state : FaultState) (events : List Event) → IsStill settings
    → AreShort events → disturbed_from settings state events ≡ events
same_events settings state [] still short = refl
same_events settings state (event ∷ events) still short =
    let behind = state_behind settings state event in
    ap (λ arrival. event_of event.at arrival ∷ disturbed_from settings behind events)
    (same_arrival settings state event.at event.arrival still short.0)
    ∙ ap (λ more. event ∷ more) (same_events settings behind events still short.1)
