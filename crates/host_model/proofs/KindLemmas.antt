-- Where no plain event begins bytes, an event that begins them is a query, of one of two kinds.
use Rattle.std.proofs.Common.{◌≡◌, ℕ, ◌⊎◌, inl, inr, ⊎_elim, List, [], ◌∷◌, ◌++◌, length, slice_index, get_or, ap, ◌∙◌, refl}
use Rattle.host_model.specs.Script.{Arrival, Tick, Reset, Frame, Query, SpellsArrival, last_time, BeginsNoEvent}
use Rattle.host_model.specs.Classes.{IsBrokenAt}
use Rattle.host_model.specs.KindsAdded.{BringsNoQuery, IsPlainBroken, NamesQuery}
use Rattle.host_model.proofs.FoundLemmas.{Found, found_or_not}
use Rattle.host_model.proofs.PartLemmas.{head_of}
use Rattle.host_model.proofs.ScriptLemmas.{query_kind}

query_or_not : (arrival : Arrival) (kind : ℕ) (rest : List ℕ) → SpellsArrival arrival kind rest → BringsNoQuery arrival ⊎ ((kind ≡ 3) ⊎ (kind ≡ 5))
query_or_not Tick kind rest spelled = inl tt
query_or_not Reset kind rest spelled = inl tt
query_or_not (Frame bytes) kind rest spelled = inl tt
query_or_not (Query type_ name) kind rest spelled = inr (query_kind type_ name kind rest spelled)

-- the first byte behind a front
byte_at : (front more : List ℕ) → slice_index (front ++ more) (length front) ≡ get_or more 0 0
byte_at [] more = refl
byte_at (byte ∷ front) more = byte_at front more

pub broken : (max : ℕ) (bytes : List ℕ) (offset : ℕ) → IsPlainBroken max bytes offset → IsBrokenAt max bytes offset ⊎ NamesQuery bytes offset
broken max bytes offset is =
    ⊎_elim
    (λ (found : Found (last_time 0 is.events) is.more).
    let event = found.event in
    let kind : get_or is.more 0 0 ≡ found.spelled.kind =
    ap (λ l. get_or l 0 0) (head_of event found.front found.rest is.more found.spelled found.whole) in
    let stands : slice_index bytes offset ≡ found.spelled.kind =
    ap (slice_index bytes) is.place ∙ ap (λ l. slice_index l (length is.front)) is.begins.whole ∙ byte_at is.front is.more ∙ kind in
    ⊎_elim
    (λ (plain : BringsNoQuery event.arrival).
    absurd (is.no_plain event found.front found.rest plain found.next found.spelled found.whole))
    (λ (query : (found.spelled.kind ≡ 3) ⊎ (found.spelled.kind ≡ 5)).
    inr (⊎_elim (λ (three : found.spelled.kind ≡ 3). inl (stands ∙ three)) (λ (five : found.spelled.kind ≡ 5). inr (stands ∙ five)) query))
    (query_or_not event.arrival found.spelled.kind found.spelled.rest found.spelled.brings))
    (λ (none : BeginsNoEvent (last_time 0 is.events) is.more).
    inl (record {
      events = is.events;
      front = is.front;
      more = is.more;
      begins = is.begins;
      few = is.few;
      place = is.place;
      goes_on = is.goes_on;
      no_event = none;
    }))
    (found_or_not (last_time 0 is.events) is.more)
