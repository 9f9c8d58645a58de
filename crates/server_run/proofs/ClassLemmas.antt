-- The bytes of a script, by how its reader ended.
use Rattle.std.proofs.Common.{◌≡◌, ℕ, ◌<◌, ◌≤◌, List, ◌++◌, length, Option, Some, None, IfSome, ap, sym, subst, ◌∙◌, refl, append-nil}
use Rattle.std.specs.Io.KnownBytes.{Consumes, IsAtEnd}
use Rattle.host_model.specs.Script.{Event, SpellsAll, AreInOrder, last_time, BeginsNoEvent}
use Rattle.host_model.specs.Classes.{IsScript, BeginsWith, IsOverLimit, IsBrokenAt}

-- the bytes of a script that was read so far
begins : (bytes more front : List ℕ) (events : List Event) → AreInOrder 0 events → SpellsAll events front → bytes ≡ front ++ more
    → BeginsWith events front more bytes
begins bytes more front events in_order spelled whole = record { in_order = in_order; spelled = spelled; whole = whole }

pub broken_at : (max : ℕ) (left_old left_now : Option (List ℕ)) (events : List Event) (front : List ℕ) (last : ℕ)
    → AreInOrder 0 events → SpellsAll events front → Consumes left_old left_now front → length events < max → last_time 0 events ≡ last
    → IfSome left_now (λ bytes. (0 < length bytes) × BeginsNoEvent last bytes) → IfSome left_old (λ bytes. IsBrokenAt max bytes (length front))
broken_at max None left_now events front last in_order spelled took few latest ends = tt
broken_at max (Some bytes) None events front last in_order spelled took few latest ends = absurd took
broken_at max (Some bytes) (Some more) events front last in_order spelled took few latest ends =
    let P : ℕ → Type 0 = λ t. BeginsNoEvent t more in
    record {
      events = events;
      front = front;
      more = more;
      begins = begins bytes more front events in_order spelled took;
      few = few;
      place = refl;
      goes_on = ends.0;
      no_event = subst P (sym latest) ends.1;
    }

pub over_limit : (max : ℕ) (left_old left_now : Option (List ℕ)) (events : List Event) (front : List ℕ)
    → AreInOrder 0 events → SpellsAll events front → Consumes left_old left_now front → length events ≡ max
    → IfSome left_now (λ bytes. 0 < length bytes) → IfSome left_old (IsOverLimit max)
over_limit max None left_now events front in_order spelled took full goes_on = tt
over_limit max (Some bytes) None events front in_order spelled took full goes_on = absurd took
over_limit max (Some bytes) (Some more) events front in_order spelled took full goes_on = record {
  events = events;
  front = front;
  more = more;
  begins = begins bytes more front events in_order spelled took;
  full = full;
  goes_on = goes_on;
}

-- nothing is left behind the events: they are the whole script
pub whole_script : (max : ℕ) (left_old left_now : Option (List ℕ)) (events : List Event) (front : List ℕ)
    → AreInOrder 0 events → length events ≤ max → SpellsAll events front → Consumes left_old left_now front
    → IsAtEnd left_now → IfSome left_old (λ bytes. IsScript max bytes events)
whole_script max None left_now events front in_order few spelled took ended = tt
whole_script max (Some bytes) None events front in_order few spelled took ended = absurd took
whole_script max (Some bytes) (Some more) events front in_order few spelled took ended =
    let P : List ℕ → Type 0 = λ l. SpellsAll events l in
    let all : bytes ≡ front = took ∙ ap (λ l. front ++ l) ended ∙ append-nil front in
    record { in_order = in_order; few = few; whole = subst P (sym all) spelled }
