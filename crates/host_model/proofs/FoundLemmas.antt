-- Bytes begin with an event that may come next, or with none.
use Rattle.std.proofs.Common.{◌≡◌, ℕ, ◌^◌, ◌<◌, ◌≤◌, ◌⊎◌, inl, inr, ⊎_elim, true, false, List, [], ◌++◌, length, get_or, take, drop, ap, sym, subst, ◌∙◌, refl, arith, append_assoc, take-append-drop, leb}
use Rattle.std.specs.Int.{from_be_bytes, to_be_bytes, w16, w64}
use Rattle.std.proofs.lemmas.Bool.Decides.{leb_tells}
use Rattle.std.proofs.lemmas.Nat.{from_be_bytes-to_be_bytes_8}
use Rattle.net_wire.specs.declared.dns.dns_type.DnsType.TheVariants.{A}
use Rattle.net_wire.specs.DnsMessage.{type_number}
use Rattle.host_model.specs.Script.{Arrival, Tick, Reset, Frame, Query, Event, head_with, name_part, SpellsArrival, IsArrival, Spells, IsNext, time_limit, BeginsNoEvent}
use Rattle.host_model.specs.Parts.{IsKind}
use Rattle.host_model.proofs.PartLemmas.{head_of, kind_known, frame_behind, name_behind, type_behind}
use Rattle.host_model.proofs.StandsLemmas.{FrameThere, NameThere, TypeThere, frame_or_not, name_or_not, type_or_not, list_or_not, same_or_not}

-- the next event of bytes, and what follows
pub record Found (last : ℕ) (bytes : List ℕ) : Type 0 where
  pub event : Event
  pub front : List ℕ
  pub rest : List ℕ
  pub next : IsNext last event
  pub spelled : Spells event front
  pub whole : bytes ≡ front ++ rest

-- the number where a time stands
abbrev time_of : List ℕ → ℕ
time_of bytes = from_be_bytes w64 (take 8 (drop 1 bytes))

-- the byte where a kind stands
abbrev kind_of : List ℕ → ℕ
kind_of bytes = get_or bytes 0 0

-- what stands behind a head
abbrev behind : List ℕ → List ℕ
behind bytes = drop 9 bytes

-- the head of an event that begins bytes, by the kind and the time that stand there
record HeadThere (kind at : ℕ) (bytes : List ℕ) : Type 0 where
  kind_is : kind ≡ kind_of bytes
  time : at ≡ time_of bytes
  whole : take 9 bytes ≡ head_with (kind_of bytes) (time_of bytes)

head_there : (kind at : ℕ) (more bytes : List ℕ) → at < 2 ^ 64 → bytes ≡ head_with kind at ++ more → HeadThere kind at bytes
head_there kind at more bytes fits is =
    let kind_is : kind ≡ kind_of bytes = sym (ap kind_of is) in
    let number : at ≡ time_of bytes = sym (ap time_of is ∙ from_be_bytes-to_be_bytes_8 at fits) in
    record { kind_is = kind_is; time = number; whole = ap (take 9) is ∙ ap (λ k. head_with k at) kind_is ∙ ap (head_with (kind_of bytes)) number }

-- that of an event which begins them
head_in : (event : Event) (front rest bytes : List ℕ) → event.at < time_limit → (spelled : Spells event front) → bytes ≡ front ++ rest
    → HeadThere spelled.kind event.at bytes
head_in event front rest bytes in_range spelled whole =
    head_there spelled.kind event.at (spelled.rest ++ rest) bytes (omega (arith, in_range)) (head_of event front rest bytes spelled whole)

-- a time may follow another one, or not
in_order_or_not : (last at : ℕ) → ((last ≤ at) × (at < time_limit)) ⊎ ((at < last) ⊎ (time_limit ≤ at))
in_order_or_not last at =
    ⊎_elim
    (λ (after : (leb last at ≡ true) × (last ≤ at)).
    ⊎_elim
    (λ (late : (leb time_limit at ≡ true) × (time_limit ≤ at)). inr (inr late.1))
    (λ (within : (leb time_limit at ≡ false) × (at < time_limit)). inl (after.1, within.1))
    (leb_tells time_limit at))
    (λ (early : (leb last at ≡ false) × (at < last)). inr (inl early.1))
    (leb_tells last at)

-- where no head stands, or one out of order, no event does
out_of_order : (last : ℕ) (bytes : List ℕ) → (time_of bytes < last) ⊎ (time_limit ≤ time_of bytes) → BeginsNoEvent last bytes
out_of_order last bytes wrong = λ event front rest next spelled whole.
    let there = head_in event front rest bytes next.in_range spelled whole in
    ⊎_elim (λ (early : time_of bytes < last). omega (arith, early, there.time, next.not_before))
    (λ (late : time_limit ≤ time_of bytes). omega (arith, late, there.time, next.in_range)) wrong

no_head : (last : ℕ) (bytes : List ℕ) → (take 9 bytes ≡ head_with (kind_of bytes) (time_of bytes) → ⊥) → BeginsNoEvent last bytes
no_head last bytes differs = λ event front rest next spelled whole. differs (head_in event front rest bytes next.in_range spelled whole).whole

-- bytes that begin with a head that is in order
record Headed (last : ℕ) (bytes : List ℕ) : Type 0 where
  whole : take 9 bytes ≡ head_with (kind_of bytes) (time_of bytes)
  not_before : last ≤ time_of bytes
  in_range : time_of bytes < time_limit

-- the event of that head, and of what spells an arrival behind it
found_behind : (last : ℕ) (bytes : List ℕ) (arrival : Arrival) (kind : ℕ) (rest more : List ℕ) → Headed last bytes → kind_of bytes ≡ kind
    → IsArrival arrival → SpellsArrival arrival kind rest → behind bytes ≡ rest ++ more → Found last bytes
found_behind last bytes arrival kind rest more head is may brings stands = record {
  event = record { at = time_of bytes; arrival = arrival };
  front = take 9 bytes ++ rest;
  rest = more;
  next = record { not_before = head.not_before; in_range = head.in_range; arrival = may };
  spelled = record {
    kind = kind;
    rest = rest;
    brings = brings;
    whole = ap (λ l. l ++ rest) (head.whole ∙ ap (λ k. head_with k (time_of bytes)) is);
  };
  whole = sym (append_assoc (take 9 bytes) rest more ∙ ap (λ l. take 9 bytes ++ l) (sym stands) ∙ take-append-drop 9 bytes);
}

-- An event that begins bytes, of the kind that stands there: so does what stands behind.
record Begun (kind : ℕ) (bytes rest : List ℕ) (event : Event) (front : List ℕ) (spelled : Spells event front) : Type 0 where
  is_kind : spelled.kind ≡ kind
  stands : behind bytes ≡ spelled.rest ++ rest

begun : (event : Event) (front rest bytes : List ℕ) (kind : ℕ) (spelled : Spells event front) → kind_of bytes ≡ kind → bytes ≡ front ++ rest
    → Begun kind bytes rest event front spelled
begun event front rest bytes kind spelled is whole =
    let head = head_of event front rest bytes spelled whole in record { is_kind = sym (ap kind_of head) ∙ is; stands = ap (drop 9) head }

-- a kind is one of five, or none
kind_or_none : (kind : ℕ) → IsKind kind ⊎ (IsKind kind → ⊥)
kind_or_none kind =
    ⊎_elim
    (λ (some : (leb 1 kind ≡ true) × (1 ≤ kind)).
    ⊎_elim
    (λ (past : (leb 6 kind ≡ true) × (6 ≤ kind)). inr (λ (is : IsKind kind). omega (arith, is.1, past.1)))
    (λ (within : (leb 6 kind ≡ false) × (kind < 6)). inl (some.1, omega (arith, within.1)))
    (leb_tells 6 kind))
    (λ (none : (leb 1 kind ≡ false) × (kind < 1)). inr (λ (is : IsKind kind). omega (arith, is.0, none.1)))
    (leb_tells 1 kind)

-- each kind: an event begins the bytes, or none does
of_frame : (last : ℕ) (bytes : List ℕ) → Headed last bytes → kind_of bytes ≡ 1 → Found last bytes ⊎ BeginsNoEvent last bytes
of_frame last bytes head kind =
    ⊎_elim
    (λ (there : FrameThere (behind bytes)).
    inl (found_behind last bytes (Frame there.1.frame) 1 (to_be_bytes w16 (length there.1.frame) ++ there.1.frame) there.0 head kind there.1.fits (refl, refl) there.1.whole))
    (λ (none : FrameThere (behind bytes) → ⊥). inr (λ event front rest next spelled whole.
    let is = begun event front rest bytes 1 spelled kind whole in
    none (rest, frame_behind event.arrival spelled.kind spelled.rest rest (behind bytes) is.is_kind next.arrival spelled.brings is.stands)))
    (frame_or_not (behind bytes))

of_name : (last : ℕ) (bytes : List ℕ) → Headed last bytes → kind_of bytes ≡ 3 → Found last bytes ⊎ BeginsNoEvent last bytes
of_name last bytes head kind =
    ⊎_elim
    (λ (there : NameThere (behind bytes)).
    inl (found_behind last bytes (Query A there.1.name) 3 (name_part there.1.name) there.0 head kind (inl refl, there.1.is_name) (inl (refl, refl, refl)) there.1.whole))
    (λ (none : NameThere (behind bytes) → ⊥). inr (λ event front rest next spelled whole.
    let is = begun event front rest bytes 3 spelled kind whole in
    none (rest, name_behind event.arrival spelled.kind spelled.rest rest (behind bytes) is.is_kind next.arrival spelled.brings is.stands)))
    (name_or_not (behind bytes))

of_type : (last : ℕ) (bytes : List ℕ) → Headed last bytes → kind_of bytes ≡ 5 → Found last bytes ⊎ BeginsNoEvent last bytes
of_type last bytes head kind =
    ⊎_elim
    (λ (there : TypeThere (behind bytes)).
    inl (found_behind last bytes (Query there.1.type_ there.1.name) 5 (to_be_bytes w16 (type_number there.1.type_) ++ name_part there.1.name) there.0 head kind
    (there.1.asked, there.1.is_name) (inr (refl, refl)) there.1.whole))
    (λ (none : TypeThere (behind bytes) → ⊥). inr (λ event front rest next spelled whole.
    let is = begun event front rest bytes 5 spelled kind whole in
    none (rest, type_behind event.arrival spelled.kind spelled.rest rest (behind bytes) is.is_kind next.arrival spelled.brings is.stands)))
    (type_or_not (behind bytes))

of_kind : (last : ℕ) (bytes : List ℕ) → Headed last bytes → IsKind (kind_of bytes) → Found last bytes ⊎ BeginsNoEvent last bytes
of_kind last bytes head known =
    ⊎_elim (λ (frame : kind_of bytes ≡ 1). of_frame last bytes head frame)
    (λ (no_frame : kind_of bytes ≡ 1 → ⊥).
    ⊎_elim (λ (tick : kind_of bytes ≡ 2). inl (found_behind last bytes Tick 2 [] (behind bytes) head tick tt (refl, refl) refl))
    (λ (no_tick : kind_of bytes ≡ 2 → ⊥).
    ⊎_elim (λ (name : kind_of bytes ≡ 3). of_name last bytes head name)
    (λ (no_name : kind_of bytes ≡ 3 → ⊥).
    ⊎_elim (λ (reset : kind_of bytes ≡ 4). inl (found_behind last bytes Reset 4 [] (behind bytes) head reset tt (refl, refl) refl))
    (λ (no_reset : kind_of bytes ≡ 4 → ⊥). of_type last bytes head (is_last (kind_of bytes) known no_frame no_tick no_name no_reset))
    (same_or_not (kind_of bytes) 4))
    (same_or_not (kind_of bytes) 3))
    (same_or_not (kind_of bytes) 2))
    (same_or_not (kind_of bytes) 1)
  where
    is_last : (kind : ℕ) → IsKind kind → (kind ≡ 1 → ⊥) → (kind ≡ 2 → ⊥) → (kind ≡ 3 → ⊥) → (kind ≡ 4 → ⊥) → kind ≡ 5
    is_last kind known no_frame no_tick no_name no_reset = omega (arith, known.0, known.1, no_frame, no_tick, no_name, no_reset)

found_headed : (last : ℕ) (bytes : List ℕ) → Headed last bytes → Found last bytes ⊎ BeginsNoEvent last bytes
found_headed last bytes head =
    ⊎_elim (λ (known : IsKind (kind_of bytes)). of_kind last bytes head known)
    (λ (unknown : IsKind (kind_of bytes) → ⊥). inr (λ event front rest next spelled whole.
    let is = head_in event front rest bytes next.in_range spelled whole in
    unknown (subst IsKind is.kind_is (kind_known event.arrival spelled.kind spelled.rest spelled.brings))))
    (kind_or_none (kind_of bytes))

pub found_or_not : (last : ℕ) (bytes : List ℕ) → Found last bytes ⊎ BeginsNoEvent last bytes
found_or_not last bytes =
    ⊎_elim
    (λ (whole : take 9 bytes ≡ head_with (kind_of bytes) (time_of bytes)).
    ⊎_elim
    (λ (ordered : (last ≤ time_of bytes) × (time_of bytes < time_limit)).
    found_headed last bytes (record { whole = whole; not_before = ordered.0; in_range = ordered.1 }))
    (λ (wrong : (time_of bytes < last) ⊎ (time_limit ≤ time_of bytes)). inr (out_of_order last bytes wrong))
    (in_order_or_not last (time_of bytes)))
    (λ (differs : take 9 bytes ≡ head_with (kind_of bytes) (time_of bytes) → ⊥). inr (no_head last bytes differs))
    (list_or_not (take 9 bytes) (head_with (kind_of bytes) (time_of bytes)))
