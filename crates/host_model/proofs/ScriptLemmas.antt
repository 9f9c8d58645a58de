-- Bytes begin with one event at most: so the events of a list of bytes are determined one by one.
use Rattle.std.proofs.Common.{◌≡◌, ℕ, ◌^◌, ◌<◌, ◌⊎◌, inl, inr, ⊎_elim, List, [], ◌∷◌, ◌++◌, length, get_or, take, drop, ap, sym, subst, ◌∙◌, refl, arith, append_assoc}
use Rattle.std.specs.Int.{to_be_bytes, from_be_bytes, w16, w64}
use Rattle.std.proofs.lemmas.List.{take_at, drop_at}
use Rattle.std.proofs.lemmas.Nat.{from_be_bytes-to_be_bytes_2, from_be_bytes-to_be_bytes_8}
use Rattle.net_wire.specs.declared.dns.dns_type.DnsType.{DnsType}
use Rattle.net_wire.specs.declared.dns.dns_type.DnsType.TheVariants.{A, Aaaa}
use Rattle.net_wire.specs.DnsMessage.{type_number}
use Rattle.host_model.specs.Script.{Arrival, Tick, Reset, Frame, Query, Event, SpellsArrival, SpellsQuery, IsArrival, IsAskedType, head_with, name_part, Spells, SpellsAll, time_limit, IsNext, AreInOrder, last_time}

-- the parts of two events that begin one list
pub record SameFront (s t : ℕ) (a b : Arrival) (xs ys : List ℕ) : Type 0 where
  pub time : s ≡ t
  pub arrival : a ≡ b
  pub rest : xs ≡ ys

-- bytes that begin with two heads: the kind and the time
pub same_kind : (k l s t : ℕ) (xs ys : List ℕ) → head_with k s ++ xs ≡ head_with l t ++ ys → k ≡ l
same_kind k l s t xs ys h = ap (λ l. get_or l 0 0) h

pub same_time : (k l s t : ℕ) (xs ys : List ℕ) → s < 2 ^ 64 → t < 2 ^ 64 → head_with k s ++ xs ≡ head_with l t ++ ys → s ≡ t
same_time k l s t xs ys fits_s fits_t h =
    let numbers : from_be_bytes w64 (to_be_bytes w64 s) ≡ from_be_bytes w64 (to_be_bytes w64 t) =
    ap (λ l. from_be_bytes w64 (take 8 (drop 1 l))) h in
    sym (from_be_bytes-to_be_bytes_8 s fits_s) ∙ numbers ∙ from_be_bytes-to_be_bytes_8 t fits_t

-- bytes of one length in front of the same bytes
same_split : (f g xs ys : List ℕ) → length f ≡ length g → f ++ xs ≡ g ++ ys → (f ≡ g) × (xs ≡ ys)
same_split f g xs ys lengths h = (
  sym (take_at f xs (length f) refl) ∙ ap (take (length f)) h ∙ take_at g ys (length f) (sym lengths),
  sym (drop_at f xs (length f) refl) ∙ ap (drop (length f)) h ∙ drop_at g ys (length f) (sym lengths),
)

-- numbers of two bytes in front of any bytes
pub same_number : (m n : ℕ) (xs ys : List ℕ) → m < 2 ^ 16 → n < 2 ^ 16 → to_be_bytes w16 m ++ xs ≡ to_be_bytes w16 n ++ ys → m ≡ n
same_number m n xs ys fits_m fits_n h =
    let numbers : from_be_bytes w16 (to_be_bytes w16 m) ≡ from_be_bytes w16 (to_be_bytes w16 n) = ap (λ l. from_be_bytes w16 (take 2 l)) h in
    sym (from_be_bytes-to_be_bytes_2 m fits_m) ∙ numbers ∙ from_be_bytes-to_be_bytes_2 n fits_n

-- two frames behind their lengths, in front of the same bytes
same_frame : (f g xs ys : List ℕ) → length f < 2 ^ 16 → length g < 2 ^ 16
    → (to_be_bytes w16 (length f) ++ f) ++ xs ≡ (to_be_bytes w16 (length g) ++ g) ++ ys → (f ≡ g) × (xs ≡ ys)
same_frame f g xs ys fits_f fits_g h =
    same_split f g xs ys (same_number (length f) (length g) (f ++ xs) (g ++ ys) fits_f fits_g h) (ap (drop 2) h)

-- two names behind their lengths, in front of the same bytes
pub same_name : (m n xs ys : List ℕ) → name_part m ++ xs ≡ name_part n ++ ys → (m ≡ n) × (xs ≡ ys)
same_name m n xs ys h = same_split m n xs ys (ap (λ l. get_or l 0 0) h) (ap (drop 1) h)

-- the number of a type of addresses
pub type_fits : (t : DnsType) → IsAskedType t → type_number t < 2 ^ 16
type_fits t asked =
    ⊎_elim (λ (is : t ≡ A). let number : type_number t ≡ 1 = ap type_number is in omega (arith, number))
    (λ (is : t ≡ Aaaa). let number : type_number t ≡ 28 = ap type_number is in omega (arith, number)) asked

pub same_type : (t u : DnsType) → IsAskedType t → IsAskedType u → type_number t ≡ type_number u → t ≡ u
same_type t u asked asked_too h =
    ⊎_elim
    (λ (is : t ≡ A).
    ⊎_elim (λ (is_too : u ≡ A). is ∙ sym is_too)
    (λ (other : u ≡ Aaaa). let numbers : 1 ≡ 28 = sym (ap type_number is) ∙ h ∙ ap type_number other in absurd (omega (arith, numbers))) asked_too)
    (λ (is : t ≡ Aaaa).
    ⊎_elim (λ (other : u ≡ A). let numbers : 28 ≡ 1 = sym (ap type_number is) ∙ h ∙ ap type_number other in absurd (omega (arith, numbers)))
    (λ (is_too : u ≡ Aaaa). is ∙ sym is_too) asked_too)
    asked

-- the kinds of queries
pub query_kind : (t : DnsType) (name : List ℕ) (kind : ℕ) (rest : List ℕ) → SpellsQuery t name kind rest → (kind ≡ 3) ⊎ (kind ≡ 5)
query_kind t name kind rest spelled =
    ⊎_elim (λ (plain : (kind ≡ 3) × (t ≡ A) × (rest ≡ name_part name)). inl plain.0)
    (λ (typed : (kind ≡ 5) × (rest ≡ to_be_bytes w16 (type_number t) ++ name_part name)). inr typed.0) spelled

not_query : (t : DnsType) (name : List ℕ) (kind : ℕ) (rest : List ℕ) → SpellsQuery t name kind rest → (kind ≡ 3 → ⊥) → (kind ≡ 5 → ⊥) → ⊥
not_query t name kind rest spelled not_three not_five = ⊎_elim not_three not_five (query_kind t name kind rest spelled)

-- two queries, in front of the same bytes
same_query : (t u : DnsType) (m n : List ℕ) (k l : ℕ) (r q xs ys : List ℕ) → IsAskedType t → IsAskedType u → k ≡ l → SpellsQuery t m k r
    → SpellsQuery u n l q → r ++ xs ≡ q ++ ys → (Query t m ≡ Query u n) × (xs ≡ ys)
same_query t u m n k l r q xs ys asked asked_too kinds spelled spelled_too h =
    ⊎_elim
    (λ (plain : (k ≡ 3) × (t ≡ A) × (r ≡ name_part m)).
    ⊎_elim
    (λ (plain_too : (l ≡ 3) × (u ≡ A) × (q ≡ name_part n)).
    let same = same_name m n xs ys (ap (λ l. l ++ xs) (sym plain.2) ∙ h ∙ ap (λ l. l ++ ys) plain_too.2) in
    (ap (λ s. Query s m) (plain.1 ∙ sym plain_too.1) ∙ ap (Query u) same.0, same.1))
    (λ (typed : (l ≡ 5) × (q ≡ to_be_bytes w16 (type_number u) ++ name_part n)). absurd (omega (arith, kinds, plain.0, typed.0)))
    spelled_too)
    (λ (typed : (k ≡ 5) × (r ≡ to_be_bytes w16 (type_number t) ++ name_part m)).
    ⊎_elim
    (λ (plain : (l ≡ 3) × (u ≡ A) × (q ≡ name_part n)). absurd (omega (arith, kinds, plain.0, typed.0)))
    (λ (typed_too : (l ≡ 5) × (q ≡ to_be_bytes w16 (type_number u) ++ name_part n)).
    let whole : to_be_bytes w16 (type_number t) ++ (name_part m ++ xs) ≡ to_be_bytes w16 (type_number u) ++ (name_part n ++ ys) =
    ap (λ l. l ++ xs) (sym typed.1) ∙ h ∙ ap (λ l. l ++ ys) typed_too.1 in
    let numbers = same_number (type_number t) (type_number u) (name_part m ++ xs) (name_part n ++ ys) (type_fits t asked) (type_fits u asked_too) whole in
    let same = same_name m n xs ys (ap (drop 2) whole) in
    (ap (λ s. Query s m) (same_type t u asked asked_too numbers) ∙ ap (Query u) same.0, same.1))
    spelled_too)
    spelled

-- what two events of one kind bring, where it stands in front of the same bytes
by_arrival : (a b : Arrival) (k l : ℕ) (r q xs ys : List ℕ) → IsArrival a → IsArrival b → k ≡ l → SpellsArrival a k r → SpellsArrival b l q
    → r ++ xs ≡ q ++ ys → (a ≡ b) × (xs ≡ ys)
by_arrival Tick Tick k l r q xs ys in_a in_b kinds one other h = (refl, ap (λ l. l ++ xs) (sym one.1) ∙ h ∙ ap (λ l. l ++ ys) other.1)
by_arrival Tick Reset k l r q xs ys in_a in_b kinds one other h = absurd (omega (arith, kinds, one.0, other.0))
by_arrival Tick (Frame g) k l r q xs ys in_a in_b kinds one other h = absurd (omega (arith, kinds, one.0, other.0))
by_arrival Tick (Query u n) k l r q xs ys in_a in_b kinds one other h =
    absurd (not_query u n l q other (λ is. omega (arith, kinds, one.0, is)) (λ is. omega (arith, kinds, one.0, is)))
by_arrival Reset Tick k l r q xs ys in_a in_b kinds one other h = absurd (omega (arith, kinds, one.0, other.0))
by_arrival Reset Reset k l r q xs ys in_a in_b kinds one other h = (refl, ap (λ l. l ++ xs) (sym one.1) ∙ h ∙ ap (λ l. l ++ ys) other.1)
by_arrival Reset (Frame g) k l r q xs ys in_a in_b kinds one other h = absurd (omega (arith, kinds, one.0, other.0))
by_arrival Reset (Query u n) k l r q xs ys in_a in_b kinds one other h =
    absurd (not_query u n l q other (λ is. omega (arith, kinds, one.0, is)) (λ is. omega (arith, kinds, one.0, is)))
by_arrival (Frame f) Tick k l r q xs ys in_a in_b kinds one other h = absurd (omega (arith, kinds, one.0, other.0))
by_arrival (Frame f) Reset k l r q xs ys in_a in_b kinds one other h = absurd (omega (arith, kinds, one.0, other.0))
by_arrival (Frame f) (Frame g) k l r q xs ys in_a in_b kinds one other h =
    let same = same_frame f g xs ys in_a in_b (ap (λ l. l ++ xs) (sym one.1) ∙ h ∙ ap (λ l. l ++ ys) other.1) in (ap Frame same.0, same.1)
by_arrival (Frame f) (Query u n) k l r q xs ys in_a in_b kinds one other h =
    absurd (not_query u n l q other (λ is. omega (arith, kinds, one.0, is)) (λ is. omega (arith, kinds, one.0, is)))
by_arrival (Query t m) Tick k l r q xs ys in_a in_b kinds one other h =
    absurd (not_query t m k r one (λ is. omega (arith, kinds, other.0, is)) (λ is. omega (arith, kinds, other.0, is)))
by_arrival (Query t m) Reset k l r q xs ys in_a in_b kinds one other h =
    absurd (not_query t m k r one (λ is. omega (arith, kinds, other.0, is)) (λ is. omega (arith, kinds, other.0, is)))
by_arrival (Query t m) (Frame g) k l r q xs ys in_a in_b kinds one other h =
    absurd (not_query t m k r one (λ is. omega (arith, kinds, other.0, is)) (λ is. omega (arith, kinds, other.0, is)))
by_arrival (Query t m) (Query u n) k l r q xs ys in_a in_b kinds one other h = same_query t u m n k l r q xs ys in_a.0 in_b.0 kinds one other h

pub same_front : (s t k l : ℕ) (a b : Arrival) (r q xs ys : List ℕ) → s < 2 ^ 64 → t < 2 ^ 64 → IsArrival a → IsArrival b
    → SpellsArrival a k r → SpellsArrival b l q → (head_with k s ++ r) ++ xs ≡ (head_with l t ++ q) ++ ys → SameFront s t a b xs ys
same_front s t k l a b r q xs ys fits_s fits_t in_a in_b spelled spelled_too h =
    let brought = by_arrival a b k l r q xs ys in_a in_b (same_kind k l s t (r ++ xs) (q ++ ys) h) spelled spelled_too (ap (drop 9) h) in
    record { time = same_time k l s t (r ++ xs) (q ++ ys) fits_s fits_t h; arrival = brought.0; rest = brought.1 }

-- an event of these parts
abbrev event_of : ℕ → Arrival → Event
event_of at arrival = record { at = at; arrival = arrival }

-- the first of two events that begin one list is the second
pub same_event : (e f : Event) (front begin xs ys : List ℕ) → e.at < time_limit → f.at < time_limit → IsArrival e.arrival → IsArrival f.arrival
    → Spells e front → Spells f begin → front ++ xs ≡ begin ++ ys → (e ≡ f) × (xs ≡ ys)
same_event e f front begin xs ys in_e in_f may_e may_f here there h =
    let spelled = ap (λ l. l ++ xs) (sym here.whole) ∙ h ∙ ap (λ l. l ++ ys) there.whole in
    let same = same_front e.at f.at here.kind there.kind e.arrival f.arrival here.rest there.rest xs ys (omega arith) (omega arith) may_e may_f here.brings there.brings spelled in
    (ap (λ s. event_of s e.arrival) same.time ∙ ap (event_of f.at) same.arrival, same.rest)

-- fs has the events of es and goes on behind them
pub record MoreEvents (last : ℕ) (es fs : List Event) (xs : List ℕ) : Type 0 where
  pub event : Event
  pub others : List Event
  pub events : fs ≡ es ++ event ∷ others
  pub next : IsNext (last_time last es) event
  pub front : List ℕ
  pub rest : List ℕ
  pub spelled : Spells event front
  pub bytes : xs ≡ front ++ rest

-- two readings of one list
abbrev pub Compared : ℕ → List Event → List Event → List ℕ → List ℕ → Type 0
Compared last es fs xs ys = ((es ≡ fs) × (xs ≡ ys)) ⊎ (MoreEvents last es fs xs ⊎ MoreEvents last fs es ys)

more_behind : (last : ℕ) (e : Event) (es fs : List Event) (xs : List ℕ) → MoreEvents e.at es fs xs → MoreEvents last (e ∷ es) (e ∷ fs) xs
more_behind last e es fs xs more = record {
  event = more.event;
  others = more.others;
  events = ap (λ l. e ∷ l) more.events;
  next = more.next;
  front = more.front;
  rest = more.rest;
  spelled = more.spelled;
  bytes = more.bytes;
}

same_head : (last : ℕ) (e f : Event) (es fs : List Event) (xs ys : List ℕ) → f ≡ e → Compared e.at es fs xs ys → Compared last (e ∷ es) (f ∷ fs) xs ys
same_head last e f es fs xs ys is_e compared =
    let P : Event → Type 0 = λ g. Compared last (e ∷ es) (g ∷ fs) xs ys in
    subst P (sym is_e) (⊎_elim
    (λ (same : (es ≡ fs) × (xs ≡ ys)). inl (ap (λ l. e ∷ l) same.0, same.1))
    (⊎_elim
    (λ (more : MoreEvents e.at es fs xs). inr (inl (more_behind last e es fs xs more)))
    (λ (more : MoreEvents e.at fs es ys). inr (inr (more_behind last e fs es ys more))))
    compared)

pub compared : (last : ℕ) (es fs : List Event) (ps qs xs ys : List ℕ) → AreInOrder last es → AreInOrder last fs → SpellsAll es ps → SpellsAll fs qs
    → ps ++ xs ≡ qs ++ ys → Compared last es fs xs ys
compared last [] [] ps qs xs ys in_es in_fs none nothing h = inl (refl, ap (λ l. l ++ xs) (sym none) ∙ h ∙ ap (λ l. l ++ ys) nothing)
compared last [] (f ∷ fs) ps qs xs ys in_es in_fs none there h = inr (inl (record {
  event = f;
  others = fs;
  events = refl;
  next = in_fs.0;
  front = there.0;
  rest = there.1 ++ ys;
  spelled = there.3;
  bytes = ap (λ l. l ++ xs) (sym none) ∙ h ∙ ap (λ l. l ++ ys) there.2 ∙ append_assoc there.0 there.1 ys;
}))
compared last (e ∷ es) [] ps qs xs ys in_es in_fs here nothing h = inr (inr (record {
  event = e;
  others = es;
  events = refl;
  next = in_es.0;
  front = here.0;
  rest = here.1 ++ xs;
  spelled = here.3;
  bytes = ap (λ l. l ++ ys) (sym nothing) ∙ sym h ∙ ap (λ l. l ++ xs) here.2 ∙ append_assoc here.0 here.1 xs;
}))
compared last (e ∷ es) (f ∷ fs) ps qs xs ys in_es in_fs here there h =
    let regrouped = sym (append_assoc here.0 here.1 xs) ∙ ap (λ l. l ++ xs) (sym here.2) ∙ h ∙ ap (λ l. l ++ ys) there.2 ∙ append_assoc there.0 there.1 ys in
    let same = same_event e f here.0 there.0 (here.1 ++ xs) (there.1 ++ ys) in_es.0.in_range in_fs.0.in_range in_es.0.arrival in_fs.0.arrival here.3 there.3 regrouped in
    let P : Event → Type 0 = λ g. AreInOrder g.at fs in
    same_head last e f es fs xs ys (sym same.0) (compared e.at es fs here.1 there.1 xs ys in_es.1 (subst P (sym same.0) in_fs.1) here.4 there.4 same.1)
