-- A made script grows by the next event.
use Rattle.std.proofs.Common.{◌≡◌, ℕ, ◌+◌, ◌*◌, ◌<◌, ◌≤◌, ◌^◌, refl, sym, List, [], ◌∷◌, ◌++◌, length, ap, ◌∙◌, subst, arith, length-append}
use Rattle.host_model.specs.Script.{Event, SpellsAll, IsNext, last_time}
use Rattle.host_model.proofs.PushLemmas.{in_order_push, spells_push}
use Rattle.made_script.specs.Growing.{GainsMade}
use Rattle.made_script.specs.Made.{IsMadeAt, AreMadeFrom, IsMadeScript}

-- the last one is before the next one
last_made : (words : List ℕ) (place last : ℕ) (events : List Event) → AreMadeFrom words place events → last ≤ place * 1000000
    → last_time last events ≤ (place + length events) * 1000000
last_made words place last [] made before = omega (arith, before)
last_made words place last (event ∷ events) made before =
    let rest = last_made words (place + 1) event.at events made.1 (omega (arith, made.0.at)) in
    omega (arith, rest)

made_push : (words : List ℕ) (place : ℕ) (events : List Event) (event : Event) → AreMadeFrom words place events
    → IsMadeAt words (place + length events) event → AreMadeFrom words place (events ++ event ∷ [])
made_push words place [] event made next = (subst (λ n. IsMadeAt words n event) (omega arith) next, tt)
made_push words place (first ∷ events) event made next =
    (made.0, made_push words (place + 1) events event made.1 (subst (λ n. IsMadeAt words n event) (omega arith) next))

pub script_grows : (words : List ℕ) (count : ℕ) (old new : List ℕ) → count < 2 ^ 32 → IsMadeScript words count old
    → GainsMade words count old new → IsMadeScript words (count + 1) new
script_grows words count old new short is gains =
    let many : length (is.events ++ gains.event ∷ []) ≡ count + 1 = length-append is.events (gains.event ∷ []) ∙ ap (λ n. n + 1) is.made.many in
    let placed : IsMadeAt words (0 + length is.events) gains.event = subst (λ n. IsMadeAt words n gains.event) (omega (arith, is.made.many)) gains.made in
    let before = last_made words 0 0 is.events is.made.each (omega arith) in
    let next : IsNext (last_time 0 is.events) gains.event = record {
      not_before = omega (arith, before, is.made.many, gains.made.at);
      in_range = omega (arith, gains.made.at, short);
      arrival = gains.arrival;
    } in
    let P : List ℕ → Type 0 = λ bytes. SpellsAll (is.events ++ gains.event ∷ []) bytes in
    record {
      events = is.events ++ gains.event ∷ [];
      made = record { many = many; each = made_push words 0 is.events gains.event is.made.each placed };
      script = record {
        in_order = in_order_push 0 is.events gains.event is.script.in_order next;
        few = omega (arith, many);
        whole = subst P (sym gains.gains.grown) (spells_push is.events gains.event old gains.gains.front is.script.whole gains.gains.spelled);
      };
    }

pub none_made : (words : List ℕ) → IsMadeScript words 0 []
none_made words = record {
  events = [];
  made = record { many = refl; each = tt };
  script = record { in_order = tt; few = omega arith; whole = refl };
}
