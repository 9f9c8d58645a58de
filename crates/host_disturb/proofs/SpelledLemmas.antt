-- What is met in place of a script's events are the events of a script.
use Rattle.std.proofs.Common.{◌≡◌, ℕ, ◌^◌, ◌<◌, ◌⊎◌, List, [], ◌∷◌, ◌++◌, length, refl, ap, sym, subst, ⊎_elim, arith}
use Rattle.std.specs.Int.{to_be_bytes, w16}
use Rattle.host_model.specs.Classes.{IsScript}
use Rattle.host_model.specs.Script.{Arrival, Tick, Reset, Frame, Query, Event, SpellsArrival, IsArrival, head_with, Spells, SpellsAll, IsNext, AreInOrder}
use Rattle.phy_layers.specs.FaultLaw.{DifferInOneBit}
use Rattle.host_disturb.proofs.MetLemmas.{are_met, number_met}
use Rattle.host_disturb.specs.declared.fault_values.FaultValues.{FaultValues}
use Rattle.host_disturb.specs.Disturbed.{disturbed, settings_for, fresh_state}
use Rattle.host_disturb.specs.Met.{MayBring, AreMet}

-- a frame that passed is as long as it was
same_length : (frame passed : List ℕ) → (passed ≡ frame) ⊎ DifferInOneBit frame passed
    → length passed ≡ length frame
same_length frame passed is =
    ⊎_elim (λ (same : passed ≡ frame). ap length same) (λ (differ : DifferInOneBit frame passed). differ.len) is

fits_met : (arrival met : Arrival) → MayBring arrival met → IsArrival arrival → IsArrival met
fits_met Tick met may fits = subst IsArrival (sym may) tt
fits_met Reset met may fits = subst IsArrival (sym may) tt
fits_met (Frame frame) met may fits =
    ⊎_elim (λ (is : met ≡ Tick). subst IsArrival (sym is) tt)
    (λ (passes : (passed : List ℕ) × (met ≡ Frame passed) × ((passed ≡ frame) ⊎ DifferInOneBit frame passed)).
    let fits_too : length passes.0 < 2 ^ 16 = omega (arith, fits, same_length frame passes.0 passes.2) in
    subst IsArrival (sym passes.1) fits_too)
    may
fits_met (Query type_ name) met may fits = subst IsArrival (sym may) fits

pub in_order_met : (last : ℕ) (events met : List Event) → AreMet events met → AreInOrder last events
    → AreInOrder last met
in_order_met last [] [] are in_order = tt
in_order_met last [] (first ∷ rest) are in_order = absurd are
in_order_met last (event ∷ events) [] are in_order = absurd are
in_order_met last (event ∷ events) (first ∷ rest) are in_order =
    let next : IsNext last first = record {
      not_before = omega (arith, are.0.time, in_order.0.not_before);
      in_range = omega (arith, are.0.time, in_order.0.in_range);
      arrival = fits_met event.arrival first.arrival are.0.arrival in_order.0.arrival;
    } in
    let P : ℕ → Type 0 = λ at. AreInOrder at rest in
    (next, subst P (sym are.0.time) (in_order_met event.at events rest are.1 in_order.1))

-- what comes of events in order is in order
pub keeps_order : (faults : FaultValues) (events : List Event) → AreInOrder 0 events → AreInOrder 0 (disturbed faults events)
keeps_order faults events in_order =
    in_order_met 0 events (disturbed faults events) (are_met (settings_for faults) (fresh_state faults.seed) events) in_order

-- A dropped frame is spelled as a tick, and one that passed with its own length. All else is spelled as it was.
spelled_met : (arrival met : Arrival) (kind : ℕ) (rest : List ℕ) → MayBring arrival met
    → SpellsArrival arrival kind rest → (kind_met : ℕ) × (rest_met : List ℕ) × SpellsArrival met kind_met rest_met
spelled_met Tick met kind rest may spelled =
    let P : Arrival → Type 0 = λ arrival. SpellsArrival arrival kind rest in
    (kind, rest, subst P (sym may) spelled)
spelled_met Reset met kind rest may spelled =
    let P : Arrival → Type 0 = λ arrival. SpellsArrival arrival kind rest in
    (kind, rest, subst P (sym may) spelled)
spelled_met (Frame frame) met kind rest may spelled =
    ⊎_elim
    (λ (is : met ≡ Tick).
    let P : Arrival → Type 0 = λ arrival. SpellsArrival arrival 2 [] in
    (2, [], subst P (sym is) (refl, refl)))
    (λ (passes : (passed : List ℕ) × (met ≡ Frame passed) × ((passed ≡ frame) ⊎ DifferInOneBit frame passed)).
    let bytes = to_be_bytes w16 (length passes.0) ++ passes.0 in
    let P : Arrival → Type 0 = λ arrival. SpellsArrival arrival 1 bytes in
    (1, bytes, subst P (sym passes.1) (refl, refl)))
    may
spelled_met (Query type_ name) met kind rest may spelled =
    let P : Arrival → Type 0 = λ arrival. SpellsArrival arrival kind rest in
    (kind, rest, subst P (sym may) spelled)

pub all_spelled : (events met : List Event) (bytes : List ℕ) → AreMet events met → SpellsAll events bytes
    → (spelled : List ℕ) × SpellsAll met spelled
all_spelled [] [] bytes are all = ([], refl)
all_spelled [] (first ∷ rest) bytes are all = absurd are
all_spelled (event ∷ events) [] bytes are all = absurd are
all_spelled (event ∷ events) (first ∷ rest) bytes are all =
    let one = spelled_met event.arrival first.arrival all.3.kind all.3.rest are.0.arrival all.3.brings in
    let front = head_with one.0 first.at ++ one.1 in
    let more = all_spelled events rest all.1 are.1 all.4 in
    let spells : Spells first front = record { kind = one.0; rest = one.1; brings = one.2; whole = refl } in
    (front ++ more.0, (front, more.0, refl, spells, more.1))

pub script_met : (max : ℕ) (bytes : List ℕ) (events met : List Event) → AreMet events met
    → IsScript max bytes events → (spelled : List ℕ) × IsScript max spelled met
script_met max bytes events met are script =
    let all = all_spelled events met bytes are script.whole in (
      all.0,
      record {
        in_order = in_order_met 0 events met are script.in_order;
        few = omega (arith, script.few, number_met events met are);
        whole = all.1;
      },
    )
