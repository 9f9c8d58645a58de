-- Ticks in place of frames that are ignored change nothing.
use Rattle.std.proofs.Common.{◌≡◌, ◌⊎◌, inl, inr, ⊎_elim, ℕ, List, [], ◌∷◌, ◌++◌, length, Some, Ok, Err, refl, ap, ap₂, subst, sym, ◌∙◌}
use Rattle.host_model.specs.declared.words.EventWords.{EventWords}
use Rattle.host_model.specs.Chronicle.{entry_at, entry_of, history_from, words_at}
use Rattle.host_model.specs.Foreign.{effect_of, effects_from}
use Rattle.host_model.specs.History.{Entry}
use Rattle.host_model.specs.Script.{Arrival, Tick, Reset, Frame, Query, Event}
use Rattle.host_model.specs.Settings.{Settings}
use Rattle.host_model.proofs.Alike.{AreAlike, IsIdle}
use Rattle.host_model.proofs.EffectLemmas.{changes_nothing}
use Rattle.host_model.proofs.ForeignEventLemmas.{alike}
use Rattle.host_model.proofs.ForeignLemmas.{same_anchor, same_entry, same_id, same_length, same_neighbor, same_times}
use Rattle.host_model.proofs.ForeignQueryLemmas.{same_count, same_servers, same_slots}
use Rattle.frame_verdict.specs.declared.verdict.Reason.{Reason}
use Rattle.frame_verdict.specs.declared.verdict.Verdict.{Verdict}
use Rattle.frame_verdict.specs.declared.verdict.Verdict.TheVariants.{Ignored, Arp, Offer, Ack, Nak, Response}
use Rattle.frame_verdict.specs.Brought.{Brought, brought_by}
use Rattle.frame_verdict.specs.Ignored.{AreSameButIgnored, AreTickedFrom, IsIgnored, frame_at, tick_at, ticked_by, ticked_event, ticked_from, verdict_on, verdicts_from}
use Rattle.frame_verdict.specs.Leaving.{LeaveTheSame}
use Rattle.frame_verdict.specs.Verdict.{verdict_of, verdict_on_brought}
use Rattle.frame_verdict.proofs.IdleLemmas.{idle_of_ignored}

module _ (settings : Settings) (before : List Entry) (one other : Entry)
    (alike : AreAlike settings before one other) where
  same_brought : (newer : List Entry) (brought : Brought)
      → verdict_on_brought settings (newer ++ one ∷ before) brought
      ≡ verdict_on_brought settings (newer ++ other ∷ before) brought
  same_brought newer (Ok datagram) =
      rw (
        same_id settings before one other alike newer,
        same_servers settings before one other alike newer,
        same_anchor settings before one other alike newer,
        same_slots settings before one other alike newer,
      )
      refl
  same_brought newer (Err verdict) = refl

  pub same_verdict : (newer : List Entry) (bytes : List ℕ)
      → verdict_of settings (newer ++ one ∷ before) bytes ≡ verdict_of settings (newer ++ other ∷ before) bytes
  same_verdict newer bytes = same_brought newer (brought_by settings.hardware bytes)

  same_on : (newer : List Entry) (arrival : Arrival)
      → verdict_on settings (newer ++ one ∷ before) arrival ≡ verdict_on settings (newer ++ other ∷ before) arrival
  same_on newer Tick = refl
  same_on newer Reset = refl
  same_on newer (Frame bytes) = ap Some (same_verdict newer bytes)
  same_on newer (Query type_ name) = refl

  same_next : (words : List ℕ) (newer : List Entry) (event : Event)
      → entry_at settings words (newer ++ one ∷ before) event ≡ entry_at settings words (newer ++ other ∷ before) event
  same_next words newer event =
      same_entry settings before one other alike newer event (words_at words (length (newer ++ one ∷ before)))
      ∙ ap (λ place. entry_of settings (newer ++ other ∷ before) event (words_at words place))
      (same_length settings before one other alike newer)

  later_verdicts : (words : List ℕ) (newer : List Entry) (events : List Event)
      → verdicts_from settings words (newer ++ one ∷ before) events
      ≡ verdicts_from settings words (newer ++ other ∷ before) events
  later_verdicts words newer [] = refl
  later_verdicts words newer (event ∷ events) =
      let entry : Entry = entry_at settings words (newer ++ other ∷ before) event in
      ap₂ (λ verdict more. verdict ∷ more) (same_on newer event.arrival)
      (ap (λ own. verdicts_from settings words (own ∷ newer ++ one ∷ before) events) (same_next words newer event)
      ∙ later_verdicts words (entry ∷ newer) events)

  later_ticked : (words : List ℕ) (newer : List Entry) (events others : List Event)
      → AreTickedFrom settings words (newer ++ one ∷ before) events others
      → AreTickedFrom settings words (newer ++ other ∷ before) events others
  later_ticked words newer [] [] ticked = ticked
  later_ticked words newer [] (next ∷ others) ticked = ticked
  later_ticked words newer (event ∷ events) [] ticked = ticked
  later_ticked words newer (event ∷ events) (next ∷ others) ticked =
      let entry : Entry = entry_at settings words (newer ++ other ∷ before) event in (
        ⊎_elim (λ (same : next ≡ event). inl same)
            (λ (tick : (next ≡ tick_at event.at) × IsIgnored settings (newer ++ one ∷ before) event).
            inr (
              tick.0,
              record {
                bytes = tick.1.bytes;
                why = tick.1.why;
                frame = tick.1.frame;
                verdict = sym (same_verdict newer tick.1.bytes) ∙ tick.1.verdict;
              },
            ))
            ticked.0,
        later_ticked words (entry ∷ newer) events others
            (subst (λ own. AreTickedFrom settings words (own ∷ newer ++ one ∷ before) events others)
            (same_next words newer event) ticked.1),
      )

  later_left : (words : List ℕ) (newer : List Entry) (events : List Event)
      → LeaveTheSame settings (history_from settings words (newer ++ one ∷ before) events)
      (history_from settings words (newer ++ other ∷ before) events)
  later_left words newer [] = record {
    count = same_length settings before one other alike newer;
    id = same_id settings before one other alike newer;
    times = same_times settings before one other alike newer;
    anchor = same_anchor settings before one other alike newer;
    stations = same_neighbor settings before one other alike newer;
    queries = same_count settings before one other alike newer;
    slots = same_slots settings before one other alike newer;
  }
  later_left words newer (event ∷ events) =
      let entry : Entry = entry_at settings words (newer ++ other ∷ before) event in
      subst
      (λ own. LeaveTheSame settings (history_from settings words (own ∷ newer ++ one ∷ before) events)
      (history_from settings words (entry ∷ newer ++ other ∷ before) events))
      (sym (same_next words newer event)) (later_left words (entry ∷ newer) events)

left_on : (settings : Settings) (one other third : List Entry)
    → LeaveTheSame settings one other → LeaveTheSame settings other third → LeaveTheSame settings one third
left_on settings one other third left more = record {
  count = left.count ∙ more.count;
  id = left.id ∙ more.id;
  times = λ place. left.times place ∙ more.times place;
  anchor = left.anchor ∙ more.anchor;
  stations = λ address. left.stations address ∙ more.stations address;
  queries = left.queries ∙ more.queries;
  slots = left.slots ∙ more.slots;
}

-- what is claimed of events and others in their place, behind some entries
abbrev DoTheSame : Settings → List ℕ → List Entry → List Event → List Event → Type 0
DoTheSame settings words before events others =
    (effects_from settings words before events ≡ effects_from settings words before others)
    × AreSameButIgnored (verdicts_from settings words before events) (verdicts_from settings words before others)
    × LeaveTheSame settings (history_from settings words before events) (history_from settings words before others)

kept_first : (settings : Settings) (words : List ℕ) (before : List Entry) (event : Event) (events others : List Event)
    → DoTheSame settings words (entry_at settings words before event ∷ before) events others
    → DoTheSame settings words before (event ∷ events) (event ∷ others)
kept_first settings words before event events others more = (
  ap (λ effects. effect_of settings before (entry_at settings words before event) ∷ effects) more.0,
  (inl refl, more.1),
  more.2,
)

ticked_first : (settings : Settings) (words : List ℕ) (before : List Entry) (at : ℕ) (bytes : List ℕ) (why : Reason)
    (events others : List Event) → verdict_of settings before bytes ≡ Ignored why
    → (AreTickedFrom settings words (entry_at settings words before (tick_at at) ∷ before) events others
    → DoTheSame settings words (entry_at settings words before (tick_at at) ∷ before) events others)
    → AreTickedFrom settings words (entry_at settings words before (frame_at at bytes) ∷ before) events others
    → DoTheSame settings words before (frame_at at bytes ∷ events) (tick_at at ∷ others)
ticked_first settings words before at bytes why events others said later ticked =
    let own : EventWords = words_at words (length before) in
    let one : Entry = entry_of settings before (frame_at at bytes) own in
    let other : Entry = entry_of settings before (tick_at at) own in
    let idle : IsIdle settings before at bytes = idle_of_ignored settings before at bytes why said in
    let like : AreAlike settings before one other = alike settings before at bytes idle own in
    let more : DoTheSame settings words (other ∷ before) events others =
    later (later_ticked settings before one other like words [] events others ticked) in (
      changes_nothing settings words before events at bytes idle
          ∙ ap (λ effects. effect_of settings before other ∷ effects) more.0,
      (
        inr (refl, (why, ap Some said)),
        subst (λ verdicts. AreSameButIgnored verdicts (verdicts_from settings words (other ∷ before) others))
            (sym (later_verdicts settings before one other like words [] events)) more.1,
      ),
      left_on settings (history_from settings words (one ∷ before) events)
          (history_from settings words (other ∷ before) events) (history_from settings words (other ∷ before) others)
          (later_left settings before one other like words [] events) more.2,
    )

-- the event that brings a frame
frame_is : (event : Event) (bytes : List ℕ) → event.arrival ≡ Frame bytes → frame_at event.at bytes ≡ event
frame_is event bytes is = ap (λ arrival. record { at = event.at; arrival = arrival }) (sym is)

do_the_same : (settings : Settings) (words : List ℕ) (before : List Entry) (events others : List Event)
    → AreTickedFrom settings words before events others → DoTheSame settings words before events others
do_the_same settings words before [] [] ticked = (
  refl,
  tt,
  record {
    count = refl;
    id = refl;
    times = λ place. refl;
    anchor = refl;
    stations = λ address. refl;
    queries = refl;
    slots = refl;
  },
)
do_the_same settings words before [] (other ∷ others) ticked = absurd ticked
do_the_same settings words before (event ∷ events) [] ticked = absurd ticked
do_the_same settings words before (event ∷ events) (other ∷ others) ticked =
    ⊎_elim
    (λ (same : other ≡ event).
    subst (λ next. DoTheSame settings words before (event ∷ events) (next ∷ others)) (sym same)
    (kept_first settings words before event events others
    (do_the_same settings words (entry_at settings words before event ∷ before) events others ticked.1)))
    (λ (tick : (other ≡ tick_at event.at) × IsIgnored settings before event).
    let framed : frame_at event.at tick.1.bytes ≡ event = frame_is event tick.1.bytes tick.1.frame in
    subst (λ next. DoTheSame settings words before (event ∷ events) (next ∷ others)) (sym tick.0)
    (subst (λ own. DoTheSame settings words before (own ∷ events) (tick_at event.at ∷ others)) framed
    (ticked_first settings words before event.at tick.1.bytes tick.1.why events others tick.1.verdict
    (do_the_same settings words (entry_at settings words before (tick_at event.at) ∷ before) events others)
    (subst (λ own. AreTickedFrom settings words (entry_at settings words before own ∷ before) events others)
    (sym framed) ticked.1))))
    ticked.0

pub changes_none : (settings : Settings) (words : List ℕ) (events others : List Event)
    → AreTickedFrom settings words [] events others → DoTheSame settings words [] events others
changes_none settings words events others ticked = do_the_same settings words [] events others ticked

-- events in their own place
all_kept : (settings : Settings) (words : List ℕ) (before : List Entry) (events : List Event)
    → AreTickedFrom settings words before events events
all_kept settings words before [] = tt
all_kept settings words before (event ∷ events) =
    (inl refl, all_kept settings words (entry_at settings words before event ∷ before) events)

pub one_ticked : (settings : Settings) (words : List ℕ) (before : List Entry) (earlier later : List Event) (at : ℕ)
    (bytes : List ℕ) (why : Reason)
    → verdict_of settings (history_from settings words before earlier) bytes ≡ Ignored why
    → AreTickedFrom settings words before (earlier ++ frame_at at bytes ∷ later) (earlier ++ tick_at at ∷ later)
one_ticked settings words before [] later at bytes why said = (
  inr (refl, record { bytes = bytes; why = why; frame = refl; verdict = said }),
  all_kept settings words (entry_at settings words before (frame_at at bytes) ∷ before) later,
)
one_ticked settings words before (event ∷ earlier) later at bytes why said = (
  inl refl,
  one_ticked settings words (entry_at settings words before event ∷ before) earlier later at bytes why said,
)

-- an event, and what stands in its place where all frames that are ignored are ticks
abbrev IsOwnOrTick : Settings → List Entry → Event → Event → Type 0
IsOwnOrTick settings before event other =
    (other ≡ event) ⊎ ((other ≡ tick_at event.at) × IsIgnored settings before event)

by_verdict : (settings : Settings) (before : List Entry) (event : Event) (bytes : List ℕ) (verdict : Verdict)
    → event.arrival ≡ Frame bytes → verdict_of settings before bytes ≡ verdict
    → IsOwnOrTick settings before event (ticked_by verdict event)
by_verdict settings before event bytes (Ignored why) is said =
    inr (refl, record { bytes = bytes; why = why; frame = is; verdict = said })
by_verdict settings before event bytes (Arp address hardware) is said = inl refl
by_verdict settings before event bytes (Offer address) is said = inl refl
by_verdict settings before event bytes (Ack cidr) is said = inl refl
by_verdict settings before event bytes Nak is said = inl refl
by_verdict settings before event bytes (Response query) is said = inl refl

by_arrival : (settings : Settings) (before : List Entry) (event : Event) (arrival : Arrival) → event.arrival ≡ arrival
    → IsOwnOrTick settings before event (ticked_event settings before event arrival)
by_arrival settings before event Tick is = inl refl
by_arrival settings before event Reset is = inl refl
by_arrival settings before event (Frame bytes) is =
    by_verdict settings before event bytes (verdict_of settings before bytes) is refl
by_arrival settings before event (Query type_ name) is = inl refl

pub all_ticked : (settings : Settings) (words : List ℕ) (before : List Entry) (events : List Event)
    → AreTickedFrom settings words before events (ticked_from settings words before events)
all_ticked settings words before [] = tt
all_ticked settings words before (event ∷ events) = (
  by_arrival settings before event event.arrival refl,
  all_ticked settings words (entry_at settings words before event ∷ before) events,
)
