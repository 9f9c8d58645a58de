-- Counting the messages of a query to one place.
use Rattle.std.proofs.Common.{◌≡◌, ℕ, suc, ◌+◌, ◌*◌, ◌-◌, ◌^◌, ◌<◌, ◌≤◌, Bool, true, false, cond, eqb, ltb, List, [], ◌∷◌, Option, Some, None, ℤ, pos, ◌+ℤ◌, ◌≤ℤ◌, ◌<ℤ◌, refl, sym, subst, arith}
use Rattle.std.specs.Prelude.{int_lt, slice_get, nat_lt}
use Rattle.std.proofs.lemmas.Bool.{cond-true, cond-false}
use Rattle.std.proofs.lemmas.Int.{ints, clamps}
use Rattle.net_wire.specs.declared.address.IpAddress.{IpAddress}
use Rattle.net_wire.specs.IpAddress.{is_unspecified}
use Rattle.net_wire.specs.Time.{instant_after}
use Rattle.dns_client.specs.declared.query.DnsQuery.{DnsQuery}
use Rattle.dns_client.specs.declared.query.QueryState.{QueryState}
use Rattle.dns_client.specs.declared.query.QueryState.TheVariants.{Pending, Answered, Failed}
use Rattle.dns_client.specs.declared.query.Turn.{Turn}
use Rattle.dns_client.specs.Looks.{Choice, Keep, Fail, places, choice_from, choice_at, look, look_in}
use Rattle.dns_client.specs.Turns.{turned_by, turned, sent_to}
use Rattle.dns_client.specs.Repeated.{last_instant}
use Rattle.dns_client.specs.Response.{failed}
use Rattle.dns_client.specs.Sends.{QueryLook, left_by, slot_behind, sent_by, messages_to, AreUpTo}
use Rattle.dns_client.specs.Waiting.{RequestValue}

-- how many messages may still go out within a turn, by its timeout, its due and its delay
data Stage (timeout due : ℤ) (delay spare : ℕ) : Type 0 where
  First : delay ≡ 1000000 → spare ≡ 4 → Stage timeout due delay spare
  Second : delay ≡ 2000000 → spare ≡ 3 → (due <ℤ last_instant → timeout ≤ℤ (due +ℤ pos 9000000)) → Stage timeout due delay spare
  Third : delay ≡ 4000000 → spare ≡ 2 → (due <ℤ last_instant → timeout ≤ℤ (due +ℤ pos 7000000)) → Stage timeout due delay spare
  Fourth : delay ≡ 8000000 → spare ≡ 1 → (due <ℤ last_instant → timeout ≤ℤ (due +ℤ pos 3000000)) → Stage timeout due delay spare
  Over : delay ≡ 10000000 → spare ≡ 0 → (due <ℤ last_instant → timeout <ℤ due) → Stage timeout due delay spare

-- a due a span after a message
waits_on : (timeout due now : ℤ) (span before behind : ℕ) → timeout ≤ℤ (due +ℤ pos before) → due ≤ℤ now → before ≤ behind + span
    → instant_after now span <ℤ last_instant → timeout ≤ℤ (instant_after now span +ℤ pos behind)
waits_on timeout due now span before behind near past fits early = omega (arith, ints, clamps)

waits_past : (timeout due now : ℤ) → timeout ≤ℤ (due +ℤ pos 3000000) → due ≤ℤ now
    → instant_after now 8000000 <ℤ last_instant → timeout <ℤ instant_after now 8000000
waits_past timeout due now near past early = omega (arith, ints, clamps)

abbrev doubled : ℕ → ℕ
doubled delay = cond (nat_lt (delay * 2) 10000000) (delay * 2) 10000000

record Sent (timeout now : ℤ) (delay spare : ℕ) : Type 0 where
  left : ℕ
  is : spare ≡ suc left
  stage : Stage timeout (instant_after now delay) (doubled delay) left

module _ (timeout due now : ℤ) (past : due ≤ℤ now) (ahead : now ≤ℤ timeout) (near : timeout ≤ℤ (now +ℤ pos 10000000))
    (early : now <ℤ last_instant) where
  due_early : due <ℤ last_instant
  due_early = omega (arith, ints)

  sends : (delay spare : ℕ) → Stage timeout due delay spare → Sent timeout now delay spare
  sends delay spare (First slow some) = record {
    left = 3;
    is = some;
    stage = rw slow (Second refl refl (λ soon. waits_on timeout now now 1000000 10000000 9000000 near (omega (arith, ints)) (omega arith) soon));
  }
  sends delay spare (Second slow some late) = record {
    left = 2;
    is = some;
    stage = rw slow (Third refl refl (λ soon. waits_on timeout due now 2000000 9000000 7000000 (late due_early) past (omega arith) soon));
  }
  sends delay spare (Third slow some late) = record {
    left = 1;
    is = some;
    stage = rw slow (Fourth refl refl (λ soon. waits_on timeout due now 4000000 7000000 3000000 (late due_early) past (omega arith) soon));
  }
  sends delay spare (Fourth slow some late) = record {
    left = 0;
    is = some;
    stage = rw slow (Over refl refl (λ soon. waits_past timeout due now (late due_early) past soon));
  }
  sends delay spare (Over slow some late) = let over : timeout <ℤ due = late due_early in absurd (omega (arith, ints))

-- how many messages may still go out to a place, at a place of the list in a turn with so many left
abbrev allowed : ℕ → ℕ → ℕ → ℕ
allowed place at spare = cond (ltb at place) 4 (cond (eqb at place) spare 0)

allowed_all : (place at : ℕ) → allowed place at 4 ≤ 4
allowed_all place at = grind arith

allowed_further : (place at spare : ℕ) → allowed place (at + 1) 4 ≤ allowed place at spare
allowed_further place at spare = grind arith

allowed_sent : (place at left sent : ℕ) → sent + allowed place at (suc left) ≤ 4
    → cond (eqb at place) 1 0 + sent + allowed place at left ≤ 4
allowed_sent place at left sent few = grind arith

module _ (place : ℕ) where
  -- what is known of the timeout of a turn whose newest look, if there was one, was then
  abbrev IsPaced : ℤ → Option ℤ → Turn → ℕ → Type 0
  IsPaced newest None turn spare = (turn.delay ≡ 1000000) × (spare ≡ 4)
  IsPaced newest (Some timeout) turn spare =
      (timeout ≤ℤ (newest +ℤ pos 10000000)) × Stage timeout turn.retransmit_at turn.delay spare

  record IsKeptTurn (newest : ℤ) (sent : ℕ) (turn : Turn) : Type 0 where
    spare : ℕ
    paced : IsPaced newest turn.timeout_at turn spare
    few : sent + allowed place turn.place spare ≤ 4

  -- a query of which so many messages went to the place, and whose newest look was then
  abbrev IsKeptIn : ℤ → ℕ → QueryState → Type 0
  IsKeptIn newest sent (Pending waiting) = IsKeptTurn newest sent waiting.turn
  IsKeptIn newest sent (Answered addresses) = sent ≤ 4
  IsKeptIn newest sent Failed = sent ≤ 4

  abbrev IsKept : ℤ → ℕ → Option DnsQuery → Type 0
  IsKept newest sent None = sent ≤ 4
  IsKept newest sent (Some query) = IsKeptIn newest sent query.state

  few_in : (newest : ℤ) (sent : ℕ) (state : QueryState) → IsKeptIn newest sent state → sent ≤ 4
  few_in newest sent (Pending waiting) kept = omega (arith, kept.few)
  few_in newest sent (Answered addresses) kept = kept
  few_in newest sent Failed kept = kept

  few : (newest : ℤ) (sent : ℕ) (slot : Option DnsQuery) → IsKept newest sent slot → sent ≤ 4
  few newest sent None kept = kept
  few newest sent (Some query) kept = few_in newest sent query.state kept

  -- time goes on
  paced_later : (newest later : ℤ) (o : Option ℤ) (turn : Turn) (spare : ℕ) → newest ≤ℤ later → IsPaced newest o turn spare → IsPaced later o turn spare
  paced_later newest later None turn spare on paced = paced
  paced_later newest later (Some timeout) turn spare on paced = let near = paced.0 in (omega (arith, ints, near), paced.1)

  kept_later_in : (newest later : ℤ) (sent : ℕ) (state : QueryState) → newest ≤ℤ later → IsKeptIn newest sent state → IsKeptIn later sent state
  kept_later_in newest later sent (Pending waiting) on kept =
      record { spare = kept.spare; paced = paced_later newest later waiting.turn.timeout_at waiting.turn kept.spare on kept.paced; few = kept.few }
  kept_later_in newest later sent (Answered addresses) on kept = kept
  kept_later_in newest later sent Failed on kept = kept

  kept_later : (newest later : ℤ) (sent : ℕ) (slot : Option DnsQuery) → newest ≤ℤ later → IsKept newest sent slot → IsKept later sent slot
  kept_later newest later sent None on kept = kept
  kept_later newest later sent (Some query) on kept = kept_later_in newest later sent query.state on kept

  -- a turn at a look
  record IsOpen (now : ℤ) (sent : ℕ) (turn : Turn) : Type 0 where
    timeout : ℤ
    is : turn.timeout_at ≡ Some timeout
    near : timeout ≤ℤ (now +ℤ pos 10000000)
    ahead : now ≤ℤ timeout
    spare : ℕ
    stage : Stage timeout turn.retransmit_at turn.delay spare
    few : sent + allowed place turn.place spare ≤ 4

  module _ (now : ℤ) (early : now <ℤ last_instant) (sent : ℕ) where
    begins_near : instant_after now 10000000 ≤ℤ (now +ℤ pos 10000000)
    begins_near = omega (arith, ints, clamps)

    begins_ahead : now ≤ℤ instant_after now 10000000
    begins_ahead = omega (arith, ints, clamps)

    opens_past : (timeout : ℤ) (turn : Turn) (spare : ℕ) (over : Bool) → int_lt timeout now ≡ over → turn.timeout_at ≡ Some timeout
        → IsPaced now (Some timeout) turn spare → sent + allowed place turn.place spare ≤ 4 → IsOpen now sent (turned_by (Some timeout) now turn)
    opens_past timeout turn spare true past is paced few =
        let P : Turn → Type 0 = λ x. IsOpen now sent x in
        subst P (sym (cond-true (int_lt timeout now) _ turn past))
        (record {
          timeout = instant_after now 10000000;
          is = refl;
          near = begins_near;
          ahead = begins_ahead;
          spare = 4;
          stage = First refl refl;
          few = omega (arith, few, allowed_further place turn.place spare);
        })
    opens_past timeout turn spare false past is paced few =
        let P : Turn → Type 0 = λ x. IsOpen now sent x in
        subst P (sym (cond-false (int_lt timeout now) _ turn past))
        (record {
          timeout = timeout;
          is = is;
          near = paced.0;
          ahead = grind (arith, ints, past);
          spare = spare;
          stage = paced.1;
          few = few;
        })

    opens_by : (o : Option ℤ) (turn : Turn) (spare : ℕ) → turn.timeout_at ≡ o → IsPaced now o turn spare
        → sent + allowed place turn.place spare ≤ 4 → IsOpen now sent (turned_by o now turn)
    opens_by None turn spare is paced few = record {
      timeout = instant_after now 10000000;
      is = refl;
      near = begins_near;
      ahead = begins_ahead;
      spare = spare;
      stage = First paced.0 paced.1;
      few = few;
    }
    opens_by (Some timeout) turn spare is paced few = opens_past timeout turn spare (int_lt timeout now) refl is paced few

    opens : (turn : Turn) → IsKeptTurn now sent turn → IsOpen now sent (turned now turn)
    opens turn kept = opens_by turn.timeout_at turn kept.spare refl kept.paced kept.few

    stays : (turn : Turn) → IsOpen now sent turn → IsKeptTurn now sent turn
    stays turn begun =
        let P : Option ℤ → Type 0 = λ o. IsPaced now o turn begun.spare in
        record { spare = begun.spare; paced = subst P (sym begun.is) (begun.near, begun.stage); few = begun.few }

    asks : (to : IpAddress) (turn : Turn) → IsOpen now sent turn → int_lt now turn.retransmit_at ≡ false
        → IsKeptTurn now (cond (eqb turn.place place) 1 0 + sent) (sent_to to now turn)
    asks to turn begun due =
        let past : turn.retransmit_at ≤ℤ now = grind (arith, ints, due) in
        let next : Sent begun.timeout now turn.delay begun.spare =
        sends begun.timeout turn.retransmit_at now past begun.ahead begun.near early turn.delay begun.spare begun.stage in
        let P : Option ℤ → Type 0 = λ o. IsPaced now o (sent_to to now turn) next.left in
        let Q : ℕ → Type 0 = λ n. sent + allowed place turn.place n ≤ 4 in
        record {
          spare = next.left;
          paced = subst P (sym begun.is) (begun.near, next.stage);
          few = allowed_sent place turn.place next.left sent (subst Q next.is begun.few);
        }

    as_before : (slot : Option DnsQuery) → IsKept now sent slot → IsKept now (0 + sent) slot
    as_before slot kept =
        let P : ℕ → Type 0 = λ n. IsKept now n slot in
        let same : sent ≡ 0 + sent = omega arith in
        subst P same kept

    abbrev IsLeft : Bool → Option DnsQuery → Choice → Type 0
    IsLeft is_taken slot choice = IsKept now (sent_by place is_taken choice + sent) (left_by is_taken slot choice)

    abbrev waiting_slot : RequestValue → Turn → Option DnsQuery
    waiting_slot request turn = Some (record { state = Pending (record { request = request; turn = turn }) })

    module _ (source : IpAddress → Option IpAddress) (servers : List IpAddress) (request : RequestValue) (first : Turn) where
      module _ (enough : sent ≤ 4) (begun : IsOpen now sent (turned now first)) where
        by_answer : (is_taken : Bool) (to : IpAddress) (o : Option IpAddress) → int_lt now (turned now first).retransmit_at ≡ false
            → IsLeft is_taken (waiting_slot request first) (choice_from request now (turned now first) to o)
        by_answer is_taken to None due = as_before failed enough
        by_answer true to (Some from) due = asks to (turned now first) begun due
        by_answer false to (Some from) due = as_before (waiting_slot request (turned now first)) (stays (turned now first) begun)

        by_tests : (is_taken unknown waits : Bool) (to : IpAddress) → int_lt now (turned now first).retransmit_at ≡ waits
            → IsLeft is_taken (waiting_slot request first)
            (cond unknown Fail (cond waits (Keep (turned now first)) (choice_from request now (turned now first) to (source to))))
        by_tests is_taken true waits to due = as_before failed enough
        by_tests is_taken false true to due = as_before (waiting_slot request (turned now first)) (stays (turned now first) begun)
        by_tests is_taken false false to due = by_answer is_taken to (source to) due

        by_place : (is_taken : Bool) (o : Option IpAddress)
            → IsLeft is_taken (waiting_slot request first) (choice_at source request now (turned now first) o)
        by_place is_taken None = as_before failed enough
        by_place is_taken (Some to) = by_tests is_taken (is_unspecified to) (int_lt now (turned now first).retransmit_at) to refl

    module _ (source : IpAddress → Option IpAddress) (servers : List IpAddress) where
      looked_in : (is_taken : Bool) (state : QueryState) → IsKeptIn now sent state
          → IsLeft is_taken (Some (record { state = state })) (look_in source servers now state)
      looked_in is_taken (Pending waiting) kept =
          by_place source servers waiting.request waiting.turn (few_in now sent (Pending waiting) kept) (opens waiting.turn kept) is_taken
          (slice_get (places servers waiting.request.mdns) (turned now waiting.turn).place)
      looked_in is_taken (Answered addresses) kept = as_before (Some (record { state = Answered addresses })) kept
      looked_in is_taken Failed kept = as_before failed kept

      looked : (is_taken : Bool) (slot : Option DnsQuery) → IsKept now sent slot → IsLeft is_taken slot (look source servers now slot)
      looked is_taken None kept = as_before None kept
      looked is_taken (Some query) kept = looked_in is_taken query.state kept

  kept : (request : RequestValue) (looks : List QueryLook) (latest : ℤ) → latest <ℤ last_instant → AreUpTo latest looks
      → IsKept latest (messages_to place request looks) (slot_behind request looks)
  kept request [] latest early up_to = record { spare = 4; paced = (refl, refl); few = omega (arith, allowed_all place 0) }
  kept request (one ∷ before) latest early up_to =
      let on : one.now ≤ℤ latest = up_to.0 in
      let soon : one.now <ℤ last_instant = omega (arith, ints) in
      kept_later one.now latest _ (slot_behind request (one ∷ before)) on
      (looked one.now soon (messages_to place request before) one.source one.servers one.is_taken (slot_behind request before)
      (kept request before one.now soon up_to.1))

pub four_messages : (request : RequestValue) (looks : List QueryLook) (place : ℕ) → AreUpTo (pos (2 ^ 63 - 2)) looks → messages_to place request looks ≤ 4
four_messages request looks place up_to =
    let early : pos (2 ^ 63 - 2) <ℤ last_instant = omega (arith, ints) in
    few place (pos (2 ^ 63 - 2)) _ (slot_behind request looks) (kept place request looks (pos (2 ^ 63 - 2)) early up_to)
