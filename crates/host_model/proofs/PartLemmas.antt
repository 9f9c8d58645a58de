-- Where a part is refused, or bytes end inside an event, no next event begins.
use Rattle.std.proofs.Common.{◌≡◌, ℕ, ◌^◌, ◌<◌, ◌≤◌, inl, inr, ⊎_elim, List, [], ◌∷◌, ◌++◌, length, get_or, drop, ap, sym, subst, ◌∙◌, arith, append_assoc, append-nil, length-append}
use Rattle.std.specs.Int.{to_be_bytes, w16}
use Rattle.std.specs.Str.{IsUtf8}
use Rattle.net_wire.specs.declared.dns.dns_type.DnsType.{DnsType}
use Rattle.net_wire.specs.declared.dns.dns_type.DnsType.TheVariants.{A, Aaaa}
use Rattle.net_wire.specs.DnsMessage.{type_number}
use Rattle.host_model.specs.Script.{Arrival, Tick, Reset, Frame, Query, Event, head_with, name_part, SpellsArrival, IsArrival, IsAskedType, IsName, Spells, IsNext, time_limit, BeginsNoEvent}
use Rattle.host_model.specs.Parts.{IsKind, IsInTime, IsInLength, IsInFrame, IsInType, BeginsQuery, IsInNameLength, IsInName, IsInside, IsWrongKind, IsWrongTime, IsWrongType, IsWrongName, IsRefused}
use Rattle.host_model.proofs.ClassLemmas.{some_bytes}
use Rattle.host_model.proofs.ScriptLemmas.{same_kind, same_time, same_number, same_name, type_fits, query_kind}

-- an event that begins bytes has its head there
pub head_of : (event : Event) (front rest bytes : List ℕ) (spelled : Spells event front) → bytes ≡ front ++ rest
    → bytes ≡ head_with spelled.kind event.at ++ (spelled.rest ++ rest)
head_of event front rest bytes spelled is =
    is ∙ ap (λ l. l ++ rest) spelled.whole ∙ append_assoc (head_with spelled.kind event.at) spelled.rest rest

-- the byte of an event's kind names one
pub kind_known : (arrival : Arrival) (kind : ℕ) (rest : List ℕ) → SpellsArrival arrival kind rest → IsKind kind
kind_known Tick kind rest spelled = (omega (arith, spelled.0), omega (arith, spelled.0))
kind_known Reset kind rest spelled = (omega (arith, spelled.0), omega (arith, spelled.0))
kind_known (Frame bytes) kind rest spelled = (omega (arith, spelled.0), omega (arith, spelled.0))
kind_known (Query type_ name) kind rest spelled =
    ⊎_elim (λ (is : kind ≡ 3). (omega (arith, is), omega (arith, is))) (λ (is : kind ≡ 5). (omega (arith, is), omega (arith, is)))
    (query_kind type_ name kind rest spelled)

wrong_kind : (last : ℕ) (part more : List ℕ) → IsWrongKind part → BeginsNoEvent last (part ++ more)
wrong_kind last part more wrong = λ event front rest next spelled same.
    let head = ap (λ l. l ++ more) (sym wrong.whole) ∙ head_of event front rest (part ++ more) spelled same in
    let kinds : wrong.kind ≡ spelled.kind = ap (λ l. get_or l 0 0) head in
    wrong.unknown (subst IsKind (sym kinds) (kind_known event.arrival spelled.kind spelled.rest spelled.brings))

wrong_time : (last : ℕ) (part more : List ℕ) → IsWrongTime last part → BeginsNoEvent last (part ++ more)
wrong_time last part more wrong = λ event front rest next spelled same.
    let head = ap (λ l. l ++ more) (sym wrong.whole) ∙ head_of event front rest (part ++ more) spelled same in
    let fits : event.at < 2 ^ 64 = omega (arith, next.in_range) in
    let at = same_time wrong.kind spelled.kind wrong.at event.at more (spelled.rest ++ rest) wrong.fits fits head in
    ⊎_elim (λ (early : wrong.at < last). omega (arith, early, at, next.not_before))
    (λ (late : time_limit ≤ wrong.at). omega (arith, late, at, next.in_range)) wrong.wrong

-- fewer bytes than an event has
pub too_few : (last : ℕ) (part : List ℕ) → length part < 9 → BeginsNoEvent last part
too_few last part few = λ event front rest next spelled same.
    let counted : length part ≡ length (front ++ rest) = ap length same in
    omega (arith, counted, length-append front rest, some_bytes event front spelled)

-- what stands behind the head of a frame's event
pub record FrameBehind (behind rest : List ℕ) : Type 0 where
  pub frame : List ℕ
  pub fits : length frame < 2 ^ 16
  pub whole : behind ≡ (to_be_bytes w16 (length frame) ++ frame) ++ rest

-- what stands in front of the same bytes behind a name's length
pub record NameBehind (behind rest : List ℕ) : Type 0 where
  pub name : List ℕ
  pub is_name : IsName name
  pub whole : behind ≡ name_part name ++ rest

-- and with its type in front
pub record TypeBehind (behind rest : List ℕ) : Type 0 where
  pub type_ : DnsType
  pub asked : IsAskedType type_
  pub name : List ℕ
  pub is_name : IsName name
  pub whole : behind ≡ (to_be_bytes w16 (type_number type_) ++ name_part name) ++ rest

-- what stands behind a head of kind 1, 3 or 5, by what the event brings
pub frame_behind : (arrival : Arrival) (kind : ℕ) (spelled rest behind : List ℕ) → kind ≡ 1 → IsArrival arrival
    → SpellsArrival arrival kind spelled → behind ≡ spelled ++ rest → FrameBehind behind rest
frame_behind Tick kind spelled rest behind one may is h = absurd (omega (arith, one, is.0))
frame_behind Reset kind spelled rest behind one may is h = absurd (omega (arith, one, is.0))
frame_behind (Frame frame) kind spelled rest behind one may is h = record { frame = frame; fits = may; whole = h ∙ ap (λ l. l ++ rest) is.1 }
frame_behind (Query type_ name) kind spelled rest behind one may is h =
    absurd (⊎_elim (λ (three : kind ≡ 3). omega (arith, one, three)) (λ (five : kind ≡ 5). omega (arith, one, five)) (query_kind type_ name kind spelled is))

pub name_behind : (arrival : Arrival) (kind : ℕ) (spelled rest behind : List ℕ) → kind ≡ 3 → IsArrival arrival
    → SpellsArrival arrival kind spelled → behind ≡ spelled ++ rest → NameBehind behind rest
name_behind Tick kind spelled rest behind three may is h = absurd (omega (arith, three, is.0))
name_behind Reset kind spelled rest behind three may is h = absurd (omega (arith, three, is.0))
name_behind (Frame frame) kind spelled rest behind three may is h = absurd (omega (arith, three, is.0))
name_behind (Query type_ name) kind spelled rest behind three may is h =
    ⊎_elim
    (λ (plain : (kind ≡ 3) × (type_ ≡ A) × (spelled ≡ name_part name)).
    record { name = name; is_name = may.1; whole = h ∙ ap (λ l. l ++ rest) plain.2 })
    (λ (typed : (kind ≡ 5) × (spelled ≡ to_be_bytes w16 (type_number type_) ++ name_part name)). absurd (omega (arith, three, typed.0)))
    is

pub type_behind : (arrival : Arrival) (kind : ℕ) (spelled rest behind : List ℕ) → kind ≡ 5 → IsArrival arrival
    → SpellsArrival arrival kind spelled → behind ≡ spelled ++ rest → TypeBehind behind rest
type_behind Tick kind spelled rest behind five may is h = absurd (omega (arith, five, is.0))
type_behind Reset kind spelled rest behind five may is h = absurd (omega (arith, five, is.0))
type_behind (Frame frame) kind spelled rest behind five may is h = absurd (omega (arith, five, is.0))
type_behind (Query type_ name) kind spelled rest behind five may is h =
    ⊎_elim
    (λ (plain : (kind ≡ 3) × (type_ ≡ A) × (spelled ≡ name_part name)). absurd (omega (arith, five, plain.0)))
    (λ (typed : (kind ≡ 5) × (spelled ≡ to_be_bytes w16 (type_number type_) ++ name_part name)).
    record { type_ = type_; asked = may.0; name = name; is_name = may.1; whole = h ∙ ap (λ l. l ++ rest) typed.1 })
    is

-- an event that begins bytes, by the head that stands there and what stands behind that
record Begun (kind : ℕ) (behind rest : List ℕ) (event : Event) (front : List ℕ) (spelled : Spells event front) : Type 0 where
  is_kind : spelled.kind ≡ kind
  stands : behind ≡ spelled.rest ++ rest

begun : (event : Event) (front rest part behind : List ℕ) (kind t : ℕ) (spelled : Spells event front) → part ≡ front ++ rest
    → part ≡ head_with kind t ++ behind → Begun kind behind rest event front spelled
begun event front rest part behind kind t spelled same whole =
    let heads : head_with kind t ++ behind ≡ head_with spelled.kind event.at ++ (spelled.rest ++ rest) =
    sym whole ∙ head_of event front rest part spelled same in
    record { is_kind = sym (same_kind kind spelled.kind t event.at behind (spelled.rest ++ rest) heads); stands = ap (drop 9) heads }

frame_of : (event : Event) (front rest part behind : List ℕ) (last t : ℕ) → IsNext last event → Spells event front → part ≡ front ++ rest
    → part ≡ head_with 1 t ++ behind → FrameBehind behind rest
frame_of event front rest part behind last t next spelled same whole =
    let is = begun event front rest part behind 1 t spelled same whole in
    frame_behind event.arrival spelled.kind spelled.rest rest behind is.is_kind next.arrival spelled.brings is.stands

type_of : (event : Event) (front rest part behind : List ℕ) (last t : ℕ) → IsNext last event → Spells event front → part ≡ front ++ rest
    → part ≡ head_with 5 t ++ behind → TypeBehind behind rest
type_of event front rest part behind last t next spelled same whole =
    let is = begun event front rest part behind 5 t spelled same whole in
    type_behind event.arrival spelled.kind spelled.rest rest behind is.is_kind next.arrival spelled.brings is.stands

-- behind what begins a query stands its name
name_of : (event : Event) (front rest part head behind : List ℕ) (type_ : DnsType) (last t : ℕ) → IsNext last event → Spells event front
    → part ≡ front ++ rest → BeginsQuery type_ t head → part ≡ head ++ behind → NameBehind behind rest
name_of event front rest part head behind type_ last t next spelled same begins whole =
    ⊎_elim
    (λ (plain : (type_ ≡ A) × (head ≡ head_with 3 t)).
    let is = begun event front rest part behind 3 t spelled same (whole ∙ ap (λ l. l ++ behind) plain.1) in
    name_behind event.arrival spelled.kind spelled.rest rest behind is.is_kind next.arrival spelled.brings is.stands)
    (λ (typed : IsAskedType type_ × (head ≡ head_with 5 t ++ to_be_bytes w16 (type_number type_))).
    let number = to_be_bytes w16 (type_number type_) in
    let there = type_of event front rest part (number ++ behind) last t next spelled same
    (whole ∙ ap (λ l. l ++ behind) typed.1 ∙ append_assoc (head_with 5 t) number behind) in
    record { name = there.name; is_name = there.is_name; whole = ap (drop 2) there.whole })
    begins

wrong_type : (last : ℕ) (part more : List ℕ) → IsWrongType last part → BeginsNoEvent last (part ++ more)
wrong_type last part more wrong = λ event front rest next spelled same.
    let number = to_be_bytes w16 wrong.number in
    let there = type_of event front rest (part ++ more) (number ++ more) last wrong.at next spelled same
    (ap (λ l. l ++ more) wrong.whole ∙ append_assoc (head_with 5 wrong.at) number more) in
    let numbers = same_number wrong.number (type_number there.type_) more (name_part there.name ++ rest) wrong.fits
    (type_fits there.type_ there.asked) there.whole in
    wrong.wrong (⊎_elim
    (λ (is : there.type_ ≡ A). inl (numbers ∙ ap type_number is))
    (λ (is : there.type_ ≡ Aaaa). inr (numbers ∙ ap type_number is)) there.asked)

wrong_name : (last : ℕ) (part more : List ℕ) → IsWrongName last part → BeginsNoEvent last (part ++ more)
wrong_name last part more wrong = λ event front rest next spelled same.
    let there = name_of event front rest (part ++ more) wrong.head (name_part wrong.name ++ more) wrong.type_ last wrong.at next spelled same wrong.begins
    (ap (λ l. l ++ more) wrong.whole ∙ append_assoc wrong.head (name_part wrong.name) more) in
    let names = same_name wrong.name there.name more rest there.whole in
    wrong.wrong (subst IsUtf8 (sym names.0) there.is_name.1)

pub refused : (last : ℕ) (part more : List ℕ) → IsRefused last part → BeginsNoEvent last (part ++ more)
refused last part more wrong =
    ⊎_elim (λ (kind : IsWrongKind part). wrong_kind last part more kind)
    (⊎_elim (λ (time : IsWrongTime last part). wrong_time last part more time)
    (⊎_elim (λ (type_ : IsWrongType last part). wrong_type last part more type_) (λ (name : IsWrongName last part). wrong_name last part more name)))
    wrong

in_length : (last : ℕ) (part : List ℕ) → IsInLength last part → BeginsNoEvent last part
in_length last part inside = λ event front rest next spelled same.
    let there = frame_of event front rest part inside.front last inside.at next spelled same inside.whole in
    let counted : length inside.front ≡ length ((to_be_bytes w16 (length there.frame) ++ there.frame) ++ rest) = ap length there.whole in
    omega (arith, counted, inside.short)

in_frame : (last : ℕ) (part : List ℕ) → IsInFrame last part → BeginsNoEvent last part
in_frame last part inside = λ event front rest next spelled same.
    let there = frame_of event front rest part (to_be_bytes w16 inside.len ++ inside.front) last inside.at next spelled same inside.whole in
    let lengths = same_number inside.len (length there.frame) inside.front (there.frame ++ rest) inside.fits there.fits there.whole in
    let behind : inside.front ≡ there.frame ++ rest = ap (drop 2) there.whole in
    let counted : length inside.front ≡ length (there.frame ++ rest) = ap length behind in
    omega (arith, counted, length-append there.frame rest, inside.short, lengths)

in_type : (last : ℕ) (part : List ℕ) → IsInType last part → BeginsNoEvent last part
in_type last part inside = λ event front rest next spelled same.
    let there = type_of event front rest part inside.front last inside.at next spelled same inside.whole in
    let counted : length inside.front ≡ length ((to_be_bytes w16 (type_number there.type_) ++ name_part there.name) ++ rest) = ap length there.whole in
    omega (arith, counted, inside.short)

in_name_length : (last : ℕ) (part : List ℕ) → IsInNameLength last part → BeginsNoEvent last part
in_name_length last part inside = λ event front rest next spelled same.
    let there = name_of event front rest part part [] inside.type_ last inside.at next spelled same inside.begins (sym (append-nil part)) in
    let counted : 0 ≡ length (name_part there.name ++ rest) = ap length there.whole in
    omega (arith, counted)

in_name : (last : ℕ) (part : List ℕ) → IsInName last part → BeginsNoEvent last part
in_name last part inside = λ event front rest next spelled same.
    let there = name_of event front rest part inside.head (inside.len ∷ inside.front) inside.type_ last inside.at next spelled same inside.begins inside.whole in
    let lengths : inside.len ≡ length there.name = ap (λ l. get_or l 0 0) there.whole in
    let behind : inside.front ≡ there.name ++ rest = ap (drop 1) there.whole in
    let counted : length inside.front ≡ length (there.name ++ rest) = ap length behind in
    omega (arith, counted, length-append there.name rest, inside.short, lengths)

pub cut_off : (last : ℕ) (part : List ℕ) → IsInside last part → BeginsNoEvent last part
cut_off last part inside =
    ⊎_elim
    (λ (none : part ≡ []). too_few last part (let counted : length part ≡ 0 = ap length none in omega (arith, counted)))
    (⊎_elim
    (λ (time : IsInTime part).
    too_few last part (let counted : length part ≡ length (time.kind ∷ [] ++ time.time) = ap length time.whole in omega (arith, counted, time.short)))
    (⊎_elim (λ (short : IsInLength last part). in_length last part short)
    (⊎_elim (λ (short : IsInFrame last part). in_frame last part short)
    (⊎_elim (λ (short : IsInType last part). in_type last part short)
    (⊎_elim (λ (short : IsInNameLength last part). in_name_length last part short) (λ (short : IsInName last part). in_name last part short))))))
    inside
