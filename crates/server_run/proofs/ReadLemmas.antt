-- What was read of a script so far, and what is taken from the source.
use Rattle.std.proofs.Common.{◌≡◌, ℕ, ◌≤◌, List, [], ◌∷◌, ◌++◌, length, Option, ap, sym, subst, ◌∙◌, refl, arith, length-append, append-nil}
use Rattle.std.specs.Io.KnownBytes.{Consumes}
use Rattle.std.proofs.KnownBytes.{Consumes-nil, Consumes-trans}
use Rattle.host_model.specs.Script.{Event, SpellsAll, IsNext, AreInOrder, last_time}
use Rattle.net_host.specs.Outside.{Outside}
use Rattle.net_host.specs.Run.{Taken}
use Rattle.net_host.proofs.PushLemmas.{in_order_push, last_time_push, spells_push}
use Rattle.script_reader.specs.ReaderState.{ReaderState, at_start}
use Rattle.script_reader.specs.Reading.{GivesNext}

-- the reader gave these events of a script, of together `front`
pub record ReadSoFar (max : ℕ) (before now : Outside) (reader : ReaderState) : Type 0 where
  pub events : List Event
  pub front : List ℕ
  pub in_order : AreInOrder 0 events
  pub few : length events ≤ max
  pub counted : length events ≡ reader.events
  pub latest : last_time 0 events ≡ reader.last
  pub placed : length front ≡ reader.offset
  pub spelled : SpellsAll events front
  pub took : Consumes before.left now.left front

-- before the first event
unfoldable pub nothing_read : (max : ℕ) (before after : Outside) → after.left ≡ before.left → ReadSoFar max before after at_start
nothing_read max before after same =
    let P : Option (List ℕ) → Type 0 = λ left. Consumes before.left left [] in
    record {
      events = [];
      front = [];
      in_order = tt;
      few = omega arith;
      counted = refl;
      latest = refl;
      placed = refl;
      spelled = refl;
      took = subst P (sym same) (Consumes-nil before.left);
    }

-- one event more
unfoldable pub read_next : (max : ℕ) (before now after : Outside) (old new : ReaderState) (event : Event)
    → ReadSoFar max before now old → GivesNext max old new now.left after.left event → ReadSoFar max before after new
read_next max before now after old new event read gives =
    let P : ℕ → Type 0 = λ t. IsNext t event in
    record {
      events = read.events ++ event ∷ [];
      front = read.front ++ gives.front;
      in_order = in_order_push 0 read.events event read.in_order (subst P (sym read.latest) gives.next);
      few = omega (arith, length-append read.events (event ∷ []), read.counted, gives.within);
      counted = omega (arith, length-append read.events (event ∷ []), read.counted, ap (λ (s : ReaderState). s.events) gives.moved);
      latest = last_time_push 0 read.events event ∙ sym (ap (λ (s : ReaderState). s.last) gives.moved);
      placed = omega (arith, length-append read.front gives.front, read.placed, ap (λ (s : ReaderState). s.offset) gives.moved);
      spelled = spells_push read.events event read.front gives.front read.spelled gives.spelled;
      took = Consumes-trans before.left now.left after.left read.front gives.front read.took gives.took;
    }

-- the source and the capture are as before, or only the capture grew
pub read_on : (max : ℕ) (before now after : Outside) (reader : ReaderState) → after.left ≡ now.left
    → ReadSoFar max before now reader → ReadSoFar max before after reader
read_on max before now after reader same read =
    let P : Option (List ℕ) → Type 0 = λ left. Consumes before.left left read.front in
    record {
      events = read.events;
      front = read.front;
      in_order = read.in_order;
      few = read.few;
      counted = read.counted;
      latest = read.latest;
      placed = read.placed;
      spelled = read.spelled;
      took = subst P (sym same) read.took;
    }

-- what was taken with a part behind the events
unfoldable pub taken_with : (max : ℕ) (before now after : Outside) (reader : ReaderState) (part : List ℕ)
    → ReadSoFar max before now reader → Consumes now.left after.left part → Taken max before after
taken_with max before now after reader part read took = record {
  events = read.events;
  front = read.front;
  part = part;
  in_order = read.in_order;
  few = read.few;
  spelled = read.spelled;
  took = Consumes-trans before.left now.left after.left read.front part read.took took;
}

-- and with none
unfoldable pub taken_whole : (max : ℕ) (before after : Outside) (reader : ReaderState) → ReadSoFar max before after reader → Taken max before after
taken_whole max before after reader read =
    let P : List ℕ → Type 0 = λ l. Consumes before.left after.left l in
    record {
      events = read.events;
      front = read.front;
      part = [];
      in_order = read.in_order;
      few = read.few;
      spelled = read.spelled;
      took = subst P (sym (append-nil read.front)) read.took;
    }
