-- The events of a script that is shown, one after another.
use Rattle.std.proofs.Common.{◌≡◌, ℕ, ◌<◌, ◌≤◌, inl, inr, List, [], ◌∷◌, ◌++◌, length, Option, Some, None, IfSome, IfErr, Result, Ok, Err, ℤ, ap, sym, subst, ◌∙◌, refl, arith, length-append, append-nil}
use Rattle.std.specs.Io.KnownBytes.{Consumes, IsAtEnd}
use Rattle.std.proofs.KnownBytes.{Consumes-nil, Consumes-trans}
use Rattle.wire_base.specs.Causes.{IsRisen}
use Rattle.host_model.specs.Script.{Event, SpellsAll, IsNext, AreInOrder, last_time, BeginsNoEvent}
use Rattle.host_model.specs.Classes.{IsScript, BeginsWith, IsOverLimit, IsBrokenAt}
use Rattle.host_model.proofs.ClassLemmas.{not_over, not_broken}
use Rattle.host_model.proofs.PushLemmas.{in_order_push, last_time_push, spells_push}
use Rattle.script_reader.specs.ReaderState.{ReaderState, at_start}
use Rattle.script_reader.specs.Reading.{arrival_of, event_at, event_with, EndsWith, GivesNext, RefusesEvent}
use Rattle.script_reader.specs.declared.script.EventHead.{EventHead}
use Rattle.script_reader.specs.declared.script.ScriptEvent.{ScriptEvent}
use Rattle.script_reader.specs.declared.script.ReadEventError.{ReadEventError}
use Rattle.script_reader.specs.declared.script.ReadEventError.TheVariants as read
use Rattle.script_text.specs.EventText.{event_of}
use Rattle.script_text.specs.ReadAgain.{AreReadAgain}
use Rattle.script_text.specs.ShowError.{of_read_event}
use Rattle.script_text.specs.Shown.{ReadsWhole, Taken, Stopped, EndsBy, Stops, HasCause, Completes}
use Rattle.script_text.specs.TextLaws.{IsOfBytes, AreOfBytes}
use Rattle.script_text.specs.declared.showing.ShowError.{ShowError}
use Rattle.script_text.specs.declared.showing.ShowError.TheVariants.{Script, Limit, Read, NoMemory}
use Rattle.script_text.proofs.TextLemmas.{reads_texts}

-- events in order, no more than there may be, are read again
pub read_again : (max : ℕ) (events : List Event) → AreInOrder 0 events → length events ≤ max → AreOfBytes events → AreReadAgain max events
read_again max events in_order few small = record {
  in_order = in_order;
  few = few;
  of_bytes = small;
  right = reads_texts max events in_order few small;
}

pub bytes_push : (events : List Event) (event : Event) → AreOfBytes events → IsOfBytes event.arrival → AreOfBytes (events ++ event ∷ [])
bytes_push [] event small is = (is, tt)
bytes_push (first ∷ events) event small is = (small.0, bytes_push events event small.1 is)

-- what stands before an event is read: these events came, and this was told of them
pub record Progress (max : ℕ) (left_old left_now : Option (List ℕ)) (reader : ReaderState) (Tells : List Event → Type 0) : Type 0 where
  pub events : List Event
  pub front : List ℕ
  pub in_order : AreInOrder 0 events
  pub few : length events ≤ max
  pub small : AreOfBytes events
  pub counted : length events ≡ reader.events
  pub latest : last_time 0 events ≡ reader.last
  pub placed : length front ≡ reader.offset
  pub spelled : SpellsAll events front
  pub took : Consumes left_old left_now front
  pub tells : Tells events

-- before the first event
pub starts : (max : ℕ) (left : Option (List ℕ)) (Tells : List Event → Type 0) → Tells [] → Progress max left left at_start Tells
starts max left Tells none = record {
  events = [];
  front = [];
  in_order = tt;
  few = omega arith;
  small = tt;
  counted = refl;
  latest = refl;
  placed = refl;
  spelled = refl;
  took = Consumes-nil left;
  tells = none;
}

-- one event more, of which it was told
pub goes_on : (max : ℕ) (left_old left_now left_new : Option (List ℕ)) (old new : ReaderState) (event : Event) (Tells More : List Event → Type 0)
    → Progress max left_old left_now old Tells → GivesNext max old new left_now left_new event → IsOfBytes event.arrival
    → ((events : List Event) → Tells events → More (events ++ event ∷ [])) → Progress max left_old left_new new More
goes_on max left_old left_now left_new old new event Tells More progress gives small told =
    let P : ReaderState → Type 0 = λ reader. Progress max left_old left_new reader More in
    let next = subst (λ t. IsNext t event) (sym progress.latest) gives.next in
    subst P (sym gives.moved) (record {
      events = progress.events ++ event ∷ [];
      front = progress.front ++ gives.front;
      in_order = in_order_push 0 progress.events event progress.in_order next;
      few = omega (arith, length-append progress.events (event ∷ []), progress.counted, gives.within);
      small = bytes_push progress.events event progress.small small;
      counted = omega (arith, length-append progress.events (event ∷ []), progress.counted);
      latest = last_time_push 0 progress.events event;
      placed = omega (arith, length-append progress.front gives.front, progress.placed);
      spelled = spells_push progress.events event progress.front gives.front progress.spelled gives.spelled;
      took = Consumes-trans left_old left_now left_new progress.front gives.front progress.took gives.took;
      tells = told progress.events progress.tells;
    })

-- what the reader gives with its time is the event that was read
pub same_event : (head : EventHead) (at : ℤ) (event : ScriptEvent) (brought : List ℕ) → event_at at event ≡ event_with head brought
    → event_of head.micros event ≡ event_with head brought
same_event head at event brought is = ap (λ (e : Event). record { at = head.micros; arrival = e.arrival }) is

pub same_bytes : (head : EventHead) (at : ℤ) (event : ScriptEvent) (brought : List ℕ) → event_at at event ≡ event_with head brought
    → IsOfBytes (arrival_of event) → IsOfBytes (event_with head brought).arrival
same_bytes head at event brought is small = subst (λ (e : Event). IsOfBytes e.arrival) is small

-- what was taken with a part behind the events
unfoldable taken_with : (max : ℕ) (left_old left_now left_new : Option (List ℕ)) (reader : ReaderState) (part : List ℕ) (Tells : List Event → Type 0)
    → Progress max left_old left_now reader Tells → Consumes left_now left_new part → Taken max left_old left_new Tells
taken_with max left_old left_now left_new reader part Tells progress took = record {
  events = progress.events;
  front = progress.front;
  part = part;
  read_again = read_again max progress.events progress.in_order progress.few progress.small;
  spelled = progress.spelled;
  tells = progress.tells;
  took = Consumes-trans left_old left_now left_new progress.front part progress.took took;
}

-- what the reader said of its answer
pub record SaidBy (max : ℕ) (reader : ReaderState) (left : Option (List ℕ)) (error : ReadEventError) : Type 0 where
  pub script : (offset : ℕ) → error ≡ read.Script offset
      → (offset ≡ reader.offset) × (reader.events < max) × IfSome left (λ bytes. (0 < length bytes) × BeginsNoEvent reader.last bytes)
  pub limit : error ≡ read.Limit → (max ≤ reader.events) × IfSome left (λ bytes. 0 < length bytes)

ends_by : (max : ℕ) (left_old left_now left_new : Option (List ℕ)) (old new : ReaderState) (Tells : List Event → Type 0) (error : ReadEventError)
    (progress : Progress max left_old left_now old Tells) (refuses : RefusesEvent max old new left_now left_new error)
    → EndsBy error (taken_with max left_old left_now left_new old refuses.part Tells progress refuses.took)
unfolding taken_with
ends_by max left_old left_now left_new old new Tells error progress refuses =
    subst (λ last. EndsWith error last left_new refuses.part) (sym progress.latest) refuses.ends

pub reading_stops : (max : ℕ) (left_old left_now left_new : Option (List ℕ)) (old new : ReaderState) (Tells : List Event → Type 0) (error : ReadEventError)
    → Progress max left_old left_now old Tells → RefusesEvent max old new left_now left_new error → SaidBy max old left_now error
    → Stops max left_old left_new Tells (of_read_event error)
unfolding taken_with
reading_stops max left_old left_now left_new old new Tells (read.Script offset) progress refuses said = record {
  taken = taken_with max left_old left_now left_new old refuses.part Tells progress refuses.took;
  ends = (
    (said.script offset refl).0 ∙ sym progress.placed,
    ends_by max left_old left_now left_new old new Tells (read.Script offset) progress refuses,
  );
}
reading_stops max left_old left_now left_new old new Tells read.Limit progress refuses said =
    let full : length progress.events ≡ max = omega (arith, progress.few, progress.counted, (said.limit refl).0) in
    record {
      taken = taken_with max left_old left_now left_new old refuses.part Tells progress refuses.took;
      ends = (full, ends_by max left_old left_now left_new old new Tells read.Limit progress refuses);
    }
reading_stops max left_old left_now left_new old new Tells read.Read progress refuses said =
    let tried : 0 < length refuses.part → length progress.events < max = λ some. omega (arith, progress.counted, refuses.tried refl some) in
    record {
      taken = taken_with max left_old left_now left_new old refuses.part Tells progress refuses.took;
      ends = (tried, ends_by max left_old left_now left_new old new Tells read.Read progress refuses);
    }

-- the bytes of a script that was read so far
begins : (bytes more front : List ℕ) (events : List Event) → AreInOrder 0 events → SpellsAll events front → bytes ≡ front ++ more
    → BeginsWith events front more bytes
begins bytes more front events in_order spelled whole = record { in_order = in_order; spelled = spelled; whole = whole }

broken_at : (max : ℕ) (left_old left_now : Option (List ℕ)) (events : List Event) (front : List ℕ) (last : ℕ)
    → AreInOrder 0 events → SpellsAll events front → Consumes left_old left_now front → length events < max → last_time 0 events ≡ last
    → IfSome left_now (λ bytes. (0 < length bytes) × BeginsNoEvent last bytes) → IfSome left_old (λ bytes. IsBrokenAt max bytes (length front))
broken_at max None left_now events front last in_order spelled took few latest ends = tt
broken_at max (Some bytes) None events front last in_order spelled took few latest ends = absurd took
broken_at max (Some bytes) (Some more) events front last in_order spelled took few latest ends = record {
  events = events;
  front = front;
  more = more;
  begins = begins bytes more front events in_order spelled took;
  few = few;
  place = refl;
  goes_on = ends.0;
  no_event = subst (λ t. BeginsNoEvent t more) (sym latest) ends.1;
}

over_limit : (max : ℕ) (left_old left_now : Option (List ℕ)) (events : List Event) (front : List ℕ)
    → AreInOrder 0 events → SpellsAll events front → Consumes left_old left_now front → length events ≡ max
    → IfSome left_now (λ bytes. 0 < length bytes) → IfSome left_old (IsOverLimit max)
over_limit max None left_now events front in_order spelled took full goes_on = tt
over_limit max (Some bytes) None events front in_order spelled took full goes_on = absurd took
over_limit max (Some bytes) (Some more) events front in_order spelled took full goes_on = record {
  events = events;
  front = front;
  more = more;
  begins = begins bytes more front events in_order spelled took;
  full = full;
  goes_on = goes_on;
}

-- the count of faults after a call of the reader
pub record CountedBy (before now after : ℕ) (error : ReadEventError) : Type 0 where
  pub quiet : now ≡ before
  pub source : (error ≡ read.Read → ⊥) → after ≡ now
  pub risen : error ≡ read.Read → IsRisen now after

pub reading_cause : (max : ℕ) (left_old left_now : Option (List ℕ)) (reader : ReaderState) (Tells : List Event → Type 0) (before now after : ℕ)
    (error : ReadEventError) → Progress max left_old left_now reader Tells
    → SaidBy max reader left_now error → CountedBy before now after error → HasCause max left_old before after (of_read_event error)
reading_cause max left_old left_now reader Tells before now after (read.Script offset) progress said counted =
    let says = said.script offset refl in (
      subst (λ o. IfSome left_old (λ bytes. IsBrokenAt max bytes o)) (progress.placed ∙ sym says.0)
          (broken_at max left_old left_now progress.events progress.front reader.last progress.in_order progress.spelled progress.took
          (omega (arith, progress.counted, says.1)) progress.latest says.2),
      counted.source (λ same. cc) ∙ counted.quiet,
    )
reading_cause max left_old left_now reader Tells before now after read.Limit progress said counted =
    let says = said.limit refl in (
      over_limit max left_old left_now progress.events progress.front progress.in_order progress.spelled progress.took
          (omega (arith, progress.few, progress.counted, says.0)) says.1,
      counted.source (λ same. cc) ∙ counted.quiet,
    )
reading_cause max left_old left_now reader Tells before now after read.Read progress said counted =
    subst (λ n. IsRisen n after) counted.quiet (counted.risen refl)

-- nothing is left behind the events: they are the whole script
whole_script : (max : ℕ) (left_old left_now : Option (List ℕ)) (events : List Event) (front : List ℕ)
    → AreInOrder 0 events → length events ≤ max → SpellsAll events front → Consumes left_old left_now front
    → IsAtEnd left_now → IfSome left_old (λ bytes. IsScript max bytes events)
whole_script max None left_now events front in_order few spelled took ended = tt
whole_script max (Some bytes) None events front in_order few spelled took ended = absurd took
whole_script max (Some bytes) (Some more) events front in_order few spelled took ended =
    let all : bytes ≡ front = took ∙ ap (λ l. front ++ l) ended ∙ append-nil front in
    record { in_order = in_order; few = few; whole = subst (λ l. SpellsAll events l) (sym all) spelled }

pub finished : (max : ℕ) (left_old left_now left_new : Option (List ℕ)) (reader : ReaderState) (Tells : List Event → Type 0)
    → Progress max left_old left_now reader Tells → IsAtEnd left_now → IsAtEnd left_new → ReadsWhole max left_old left_new Tells
finished max left_old left_now left_new reader Tells progress was_at_end at_end = record {
  events = progress.events;
  script = whole_script max left_old left_now progress.events progress.front progress.in_order progress.few progress.spelled progress.took was_at_end;
  read_again = read_again max progress.events progress.in_order progress.few progress.small;
  tells = progress.tells;
  ended = at_end;
}

by_cause : (max : ℕ) (left : Option (List ℕ)) (before after : ℕ) (result : Result (Unit {0}) ShowError)
    → IfErr result (HasCause max left before after) → Completes max left before after result
by_cause max None before after result cause = tt
by_cause max (Some bytes) before after (Ok done) cause = λ events script reads. inl refl
by_cause max (Some bytes) before after (Err (Script offset)) cause = λ events script reads.
    absurd (not_broken max bytes offset events script cause.0)
by_cause max (Some bytes) before after (Err Limit) cause = λ events script reads. absurd (not_over max bytes events script cause.0)
by_cause max (Some bytes) before after (Err Read) cause = λ events script reads. absurd (reads cause)
by_cause max (Some bytes) before after (Err NoMemory) cause = λ events script reads. inr refl

-- without a cause it ends well
pub completes : (max : ℕ) (left : Option (List ℕ)) (before after : ℕ) (result : Result (Unit {0}) ShowError)
    → IfErr result (HasCause max left before after) → Completes max left before after result
completes max left before after result cause = by_cause max left before after result cause
