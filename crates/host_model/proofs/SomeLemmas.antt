-- Bytes are in one of the classes: events are read off as long as there are some.
use Rattle.std.proofs.Common.{◌≡◌, ℕ, zero, suc, ◌<◌, ◌≤◌, ◌⊎◌, inl, inr, ⊎_elim, List, [], ◌∷◌, ◌++◌, length, ap, sym, subst, ◌∙◌, refl, arith, append_assoc, append-nil}
use Rattle.host_model.specs.Script.{Event, SpellsAll, AreInOrder, last_time, BeginsNoEvent}
use Rattle.host_model.specs.Classes.{IsValidScript, BeginsWith, IsOverLimit, IsBrokenAt}
use Rattle.host_model.proofs.FoundLemmas.{Found, found_or_not}

-- how many events bytes begin with, at most `max` of them, and why they are no more
abbrev pub Ends : ℕ → ℕ → List Event → List ℕ → Type 0
Ends last max events more =
    ((more ≡ []) × (length events ≤ max))
    ⊎ (((0 < length more) × (length events ≡ max)) ⊎ ((0 < length more) × (length events < max) × BeginsNoEvent (last_time last events) more))

pub record Split (last max : ℕ) (bytes : List ℕ) : Type 0 where
  pub events : List Event
  pub front : List ℕ
  pub more : List ℕ
  pub in_order : AreInOrder last events
  pub spelled : SpellsAll events front
  pub whole : bytes ≡ front ++ more
  pub ends : Ends last max events more

none_of : (last max : ℕ) (bytes : List ℕ) → Ends last max [] bytes → Split last max bytes
none_of last max bytes ends = record { events = []; front = []; more = bytes; in_order = tt; spelled = refl; whole = refl; ends = ends }

one_more : (last max : ℕ) (bytes : List ℕ) (found : Found last bytes) → Split found.event.at max found.rest → Split last (suc max) bytes
one_more last max bytes found later = record {
  events = found.event ∷ later.events;
  front = found.front ++ later.front;
  more = later.more;
  in_order = (found.next, later.in_order);
  spelled = (found.front, later.front, refl, found.spelled, later.spelled);
  whole = found.whole ∙ ap (λ l. found.front ++ l) later.whole ∙ sym (append_assoc found.front later.front later.more);
  ends = ⊎_elim
      (λ (none : (later.more ≡ []) × (length later.events ≤ max)). inl (none.0, omega (arith, none.1)))
      (⊎_elim
      (λ (full : (0 < length later.more) × (length later.events ≡ max)). inr (inl (full.0, omega (arith, full.1))))
      (λ (broken : (0 < length later.more) × (length later.events < max) × BeginsNoEvent (last_time found.event.at later.events) later.more).
      inr (inr (broken.0, omega (arith, broken.1), broken.2))))
      later.ends;
}

split : (max last : ℕ) (bytes : List ℕ) → Split last max bytes
split max last [] = none_of last max [] (inl (refl, omega arith))
split zero last (byte ∷ bytes) = none_of last zero (byte ∷ bytes) (inr (inl (omega arith, refl)))
split (suc max) last (byte ∷ bytes) =
    ⊎_elim
    (λ (found : Found last (byte ∷ bytes)). one_more last max (byte ∷ bytes) found (split max found.event.at found.rest))
    (λ (none : BeginsNoEvent last (byte ∷ bytes)). none_of last (suc max) (byte ∷ bytes) (inr (inr (omega arith, omega arith, none))))
    (found_or_not last (byte ∷ bytes))

pub some : (max : ℕ) (bytes : List ℕ) → IsValidScript max bytes ⊎ (IsOverLimit max bytes ⊎ ((offset : ℕ) × IsBrokenAt max bytes offset))
some max bytes =
    let is = split max 0 bytes in
    let begins : BeginsWith is.events is.front is.more bytes = record { in_order = is.in_order; spelled = is.spelled; whole = is.whole } in
    ⊎_elim
    (λ (none : (is.more ≡ []) × (length is.events ≤ max)).
    let P : List ℕ → Type 0 = λ l. SpellsAll is.events l in
    inl (
      is.events,
      record {
        in_order = is.in_order;
        few = none.1;
        whole = subst P (sym (is.whole ∙ ap (λ l. is.front ++ l) none.0 ∙ append-nil is.front)) is.spelled;
      },
    ))
    (⊎_elim
    (λ (full : (0 < length is.more) × (length is.events ≡ max)).
    inr (inl (record { events = is.events; front = is.front; more = is.more; begins = begins; full = full.1; goes_on = full.0 })))
    (λ (broken : (0 < length is.more) × (length is.events < max) × BeginsNoEvent (last_time 0 is.events) is.more).
    inr (inr (
      length is.front,
      record {
        events = is.events;
        front = is.front;
        more = is.more;
        begins = begins;
        few = broken.1;
        place = refl;
        goes_on = broken.0;
        no_event = broken.2;
      },
    ))))
    is.ends
