-- The classes of a script exclude each other.
use Rattle.std.proofs.Common.{◌≡◌, ℕ, ◌<◌, ◌≤◌, ⊎_elim, List, [], ◌∷◌, ◌++◌, length, ap, sym, ◌∙◌, arith, append-nil, length-append}
use Rattle.host_model.specs.Script.{Event, Spells, head_with}
use Rattle.host_model.specs.Classes.{IsScript, BeginsWith, IsOverLimit, IsBrokenAt}
use Rattle.host_model.proofs.ScriptLemmas.{Compared, compared, MoreEvents}

-- fs goes on behind es, so it has more events
more_events : (last : ℕ) (es fs : List Event) (xs : List ℕ) → MoreEvents last es fs xs → length es < length fs
more_events last es fs xs more =
    let counted : length fs ≡ length (es ++ more.event ∷ more.others) = ap length more.events in
    omega (arith, counted, length-append es (more.event ∷ more.others))

-- an event has bytes
pub some_bytes : (event : Event) (front : List ℕ) → Spells event front → 9 ≤ length front
some_bytes event front spelled =
    let head = head_with spelled.kind event.at in
    let counted : length front ≡ length (head ++ spelled.rest) = ap length spelled.whole in
    omega (arith, counted, length-append head spelled.rest)

-- and bytes follow those of es
more_bytes : (last : ℕ) (es fs : List Event) (xs : List ℕ) → MoreEvents last es fs xs → 0 < length xs
more_bytes last es fs xs more =
    let counted : length xs ≡ length (more.front ++ more.rest) = ap length more.bytes in
    omega (arith, counted, length-append more.front more.rest, some_bytes more.event more.front more.spelled)

-- a script begins with its events, and then nothing
pub whole_begins : (max : ℕ) (bytes : List ℕ) (events : List Event) → IsScript max bytes events → BeginsWith events bytes [] bytes
whole_begins max bytes events script = record {
  in_order = script.in_order;
  spelled = script.whole;
  whole = sym (append-nil bytes);
}

-- two readings of the same bytes
both : (bytes ps qs xs ys : List ℕ) (es fs : List Event) → BeginsWith es ps xs bytes → BeginsWith fs qs ys bytes → Compared 0 es fs xs ys
both bytes ps qs xs ys es fs here there =
    compared 0 es fs ps qs xs ys here.in_order there.in_order here.spelled there.spelled (sym here.whole ∙ there.whole)

pub not_over : (max : ℕ) (bytes : List ℕ) (es : List Event) → IsScript max bytes es → IsOverLimit max bytes → ⊥
not_over max bytes es script over =
    ⊎_elim
    (λ (same : (es ≡ over.events) × ([] ≡ over.more)).
    let counted : 0 ≡ length over.more = ap length same.1 in omega (arith, counted, over.goes_on))
    (⊎_elim
    (λ (more : MoreEvents 0 es over.events []). omega (arith, more_bytes 0 es over.events [] more))
    (λ (more : MoreEvents 0 over.events es over.more).
    omega (arith, more_events 0 over.events es over.more more, script.few, over.full)))
    (both bytes bytes over.front [] over.more es over.events (whole_begins max bytes es script) over.begins)

pub not_broken : (max : ℕ) (bytes : List ℕ) (offset : ℕ) (es : List Event) → IsScript max bytes es → IsBrokenAt max bytes offset → ⊥
not_broken max bytes offset es script broken =
    ⊎_elim
    (λ (same : (es ≡ broken.events) × ([] ≡ broken.more)).
    let counted : 0 ≡ length broken.more = ap length same.1 in omega (arith, counted, broken.goes_on))
    (⊎_elim
    (λ (more : MoreEvents 0 es broken.events []). omega (arith, more_bytes 0 es broken.events [] more))
    (λ (more : MoreEvents 0 broken.events es broken.more).
    broken.no_event more.event more.front more.rest more.next more.spelled more.bytes))
    (both bytes bytes broken.front [] broken.more es broken.events (whole_begins max bytes es script) broken.begins)

pub over_or_broken : (max : ℕ) (bytes : List ℕ) (offset : ℕ) → IsOverLimit max bytes → IsBrokenAt max bytes offset → ⊥
over_or_broken max bytes offset over broken =
    ⊎_elim
    (λ (same : (over.events ≡ broken.events) × (over.more ≡ broken.more)).
    let counted : length over.events ≡ length broken.events = ap length same.0 in
    omega (arith, counted, over.full, broken.few))
    (⊎_elim
    (λ (more : MoreEvents 0 over.events broken.events over.more).
    omega (arith, more_events 0 over.events broken.events over.more more, over.full, broken.few))
    (λ (more : MoreEvents 0 broken.events over.events broken.more).
    broken.no_event more.event more.front more.rest more.next more.spelled more.bytes))
    (both bytes over.front broken.front over.more broken.more over.events broken.events over.begins broken.begins)

pub one_script : (max : ℕ) (bytes : List ℕ) (es fs : List Event) → IsScript max bytes es → IsScript max bytes fs → es ≡ fs
one_script max bytes es fs here there =
    ⊎_elim
    (λ (same : (es ≡ fs) × ([] ≡ [])). same.0)
    (⊎_elim
    (λ (more : MoreEvents 0 es fs []). absurd (omega (arith, more_bytes 0 es fs [] more)))
    (λ (more : MoreEvents 0 fs es []). absurd (omega (arith, more_bytes 0 fs es [] more))))
    (both bytes bytes bytes [] [] es fs (whole_begins max bytes es here) (whole_begins max bytes fs there))

-- the same bytes behind two fronts stand at the same place
same_place : (bytes ps qs xs ys : List ℕ) → bytes ≡ ps ++ xs → bytes ≡ qs ++ ys → xs ≡ ys → length ps ≡ length qs
same_place bytes ps qs xs ys here there same =
    let first : length bytes ≡ length (ps ++ xs) = ap length here in
    let second : length bytes ≡ length (qs ++ ys) = ap length there in
    let third : length xs ≡ length ys = ap length same in
    omega (arith, first, second, third, length-append ps xs, length-append qs ys)

pub one_place : (max : ℕ) (bytes : List ℕ) (here there : ℕ) → IsBrokenAt max bytes here → IsBrokenAt max bytes there → here ≡ there
one_place max bytes here there first second =
    ⊎_elim
    (λ (same : (first.events ≡ second.events) × (first.more ≡ second.more)).
    first.place ∙ same_place bytes first.front second.front first.more second.more first.begins.whole second.begins.whole same.1 ∙ sym second.place)
    (⊎_elim
    (λ (more : MoreEvents 0 first.events second.events first.more).
    absurd (first.no_event more.event more.front more.rest more.next more.spelled more.bytes))
    (λ (more : MoreEvents 0 second.events first.events second.more).
    absurd (second.no_event more.event more.front more.rest more.next more.spelled more.bytes)))
    (both bytes first.front second.front first.more second.more first.events second.events first.begins second.begins)

-- events whose bytes begin a script are no more than its events
pub front_no_longer : (max : ℕ) (bytes front more : List ℕ) (es fs : List Event) → IsScript max bytes es → BeginsWith fs front more bytes
    → length fs ≤ length es
front_no_longer max bytes front more es fs script begins =
    ⊎_elim
    (λ (same : (es ≡ fs) × ([] ≡ more)). let counted : length es ≡ length fs = ap length same.0 in omega (arith, counted))
    (⊎_elim
    (λ (longer : MoreEvents 0 es fs []). absurd (omega (arith, more_bytes 0 es fs [] longer)))
    (λ (longer : MoreEvents 0 fs es more). omega (arith, more_events 0 fs es more longer)))
    (both bytes bytes front [] more es fs (whole_begins max bytes es script) begins)
