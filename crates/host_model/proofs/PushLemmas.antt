-- One event more: the order of events and their bytes.
use Rattle.std.proofs.Common.{◌≡◌, ℕ, List, [], ◌∷◌, ◌++◌, ap, sym, ◌∙◌, refl, append_assoc, append-nil}
use Rattle.host_model.specs.Script.{Event, Spells, SpellsAll, IsNext, AreInOrder, last_time}

pub in_order_push : (last : ℕ) (events : List Event) (event : Event) → AreInOrder last events → IsNext (last_time last events) event
    → AreInOrder last (events ++ event ∷ [])
in_order_push last [] event in_order next = (next, tt)
in_order_push last (first ∷ events) event in_order next = (in_order.0, in_order_push first.at events event in_order.1 next)

pub last_time_push : (last : ℕ) (events : List Event) (event : Event) → last_time last (events ++ event ∷ []) ≡ event.at
last_time_push last [] event = refl
last_time_push last (first ∷ events) event = last_time_push first.at events event

pub spells_push : (events : List Event) (event : Event) (bytes front : List ℕ) → SpellsAll events bytes → Spells event front
    → SpellsAll (events ++ event ∷ []) (bytes ++ front)
spells_push [] event bytes front none spelled = (front, [], ap (λ l. l ++ front) none ∙ sym (append-nil front), spelled, refl)
spells_push (first ∷ events) event bytes front spell spelled = (
  spell.0,
  spell.1 ++ front,
  ap (λ l. l ++ front) spell.2 ∙ append_assoc spell.0 spell.1 front,
  spell.3,
  spells_push events event spell.1 front spell.4 spelled,
)
