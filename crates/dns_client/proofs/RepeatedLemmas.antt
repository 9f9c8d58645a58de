-- What a look leaves, a second look at the same instant leaves too.
use Rattle.std.proofs.Common.{◌≡◌, ℕ, ◌<◌, Bool, true, false, cond, List, [], ◌∷◌, ◌++◌, Option, Some, None, ℤ, ◌<ℤ◌, refl, ◌∙◌, ap, subst, arith}
use Rattle.std.specs.Prelude.{⊤, int_lt, slice_get, ◌-◌, ◌+◌}
use Rattle.std.specs.List.{All, AllByRecursion}
use Rattle.std.proofs.lemmas.Bool.{cond-true, cond-false}
use Rattle.std.proofs.lemmas.Int.{ints, clamps}
use Rattle.std.proofs.lemmas.List.Elements.{recursion_from_All}
use Rattle.net_wire.specs.declared.address.IpAddress.{IpAddress}
use Rattle.net_wire.specs.IpAddress.{is_unspecified}
use Rattle.net_wire.specs.Time.{instant_after}
use Rattle.dns_client.specs.declared.query.DnsQuery.{DnsQuery}
use Rattle.dns_client.specs.declared.query.QueryState.{QueryState}
use Rattle.dns_client.specs.declared.query.QueryState.TheVariants.{Pending, Answered, Failed}
use Rattle.dns_client.specs.declared.query.Turn.{Turn}
use Rattle.dns_client.specs.Looks.{Choice, Pass, Keep, Fail, Ask, places, choice_from, choice_at, look, look_in, with_turn, Walk, Quiet, Sends, behind, walk_on, walk}
use Rattle.dns_client.specs.Turns.{turned_by, turned, sent_to}
use Rattle.dns_client.specs.Repeated.{last_instant, IsTimed, IsTimedIn, IsRepeated}
use Rattle.dns_client.specs.Response.{failed}
use Rattle.dns_client.specs.Slots.{Slots}
use Rattle.dns_client.specs.Waiting.{RequestValue}
use Rattle.dns_client.proofs.WalkLemmas.{behind-behind}

pub not_past : (now : ℤ) (n : ℕ) → now <ℤ last_instant → int_lt (instant_after now n) now ≡ false
not_past now n early = grind (arith, ints, clamps)

pub in_future : (now : ℤ) (n : ℕ) → now <ℤ last_instant → 0 < n → int_lt now (instant_after now n) ≡ true
in_future now n early some = grind (arith, ints, clamps)

abbrev timeout : Turn → Option ℤ
timeout turn = turn.timeout_at

module _ (now : ℤ) (early : now <ℤ last_instant) where
  -- a turn with the timeout of a turn at a look is not over at that look
  still_past : (t : ℤ) (turn x : Turn) (over : Bool) → int_lt t now ≡ over → x.timeout_at ≡ (turned_by (Some t) now turn).timeout_at
      → turn.timeout_at ≡ Some t → turned now x ≡ x
  still_past t turn x true is same was =
      ap (λ o. turned_by o now x) (same ∙ ap timeout (cond-true (int_lt t now) _ _ is))
      ∙ cond-false _ _ _ (not_past now 10000000 early)
  still_past t turn x false is same was =
      ap (λ o. turned_by o now x) (same ∙ ap timeout (cond-false (int_lt t now) _ _ is) ∙ was)
      ∙ cond-false _ _ _ is

  still_by : (timeout : Option ℤ) (turn x : Turn) → turn.timeout_at ≡ timeout → x.timeout_at ≡ (turned_by timeout now turn).timeout_at
      → turned now x ≡ x
  still_by None turn x was same = ap (λ o. turned_by o now x) same ∙ cond-false _ _ _ (not_past now 10000000 early)
  still_by (Some t) turn x was same = still_past t turn x (int_lt t now) refl same was

  pub still : (turn x : Turn) → x.timeout_at ≡ (turned now turn).timeout_at → turned now x ≡ x
  still turn x same = still_by turn.timeout_at turn x refl same

  delayed_past : (t : ℤ) (turn : Turn) (over : Bool) → int_lt t now ≡ over → 0 < turn.delay → 0 < (turned_by (Some t) now turn).delay
  delayed_past t turn true is some = rw is (omega arith)
  delayed_past t turn false is some = rw is some

  delayed_by : (timeout : Option ℤ) (turn : Turn) → 0 < turn.delay → 0 < (turned_by timeout now turn).delay
  delayed_by None turn some = some
  delayed_by (Some t) turn some = delayed_past t turn (int_lt t now) refl some

  -- a further look leaves a slot, whatever source addresses there are
  abbrev Stays : List IpAddress → Option DnsQuery → Type 0
  Stays servers slot = (source : IpAddress → Option IpAddress) (more : Slots)
      → walk (look source servers now) (slot ∷ more) ≡ behind (slot ∷ []) (walk (look source servers now) more)

  abbrev waiting_slot : RequestValue → Turn → Option DnsQuery
  waiting_slot request turn = Some (record { state = Pending (record { request = request; turn = turn }) })

  module _ (servers : List IpAddress) (request : RequestValue) where
    -- a query that is not due, at a place with an address
    not_due : (to : IpAddress) (turn : Turn) → turned now turn ≡ turn → slice_get (places servers request.mdns) turn.place ≡ Some to
        → is_unspecified to ≡ false → int_lt now turn.retransmit_at ≡ true → Stays servers (waiting_slot request turn)
    not_due to turn same there known early source more =
        ap (λ c. walk_on (waiting_slot request turn) c more (walk (look source servers now) more))
        (ap (λ x. choice_at source request now x (slice_get (places servers request.mdns) x.place)) same
        ∙ ap (λ o. choice_at source request now turn o) there
        ∙ cond-false _ _ _ known ∙ cond-true _ _ _ early)

  -- what a look leaves a further look leaves, and what it asked it asks again
  abbrev Settles : (IpAddress → Option IpAddress) → List IpAddress → Option DnsQuery → Choice → Type 0
  Settles source servers slot Pass = Stays servers slot
  Settles source servers slot (Keep turn) = Stays servers (with_turn turn slot)
  Settles source servers slot Fail = ⊤
  Settles source servers slot (Ask request from to before after) =
      Stays servers (with_turn after slot)
      × ((more : Slots) → walk (look source servers now) (with_turn before slot ∷ more)
      ≡ Sends [] (with_turn before slot) request from to before after more)

  module _ (source : IpAddress → Option IpAddress) (servers : List IpAddress) where
    module _ (request : RequestValue) (first : Turn) (some : 0 < first.delay) where
      asks : (to : IpAddress) (o : Option IpAddress) → slice_get (places servers request.mdns) (turned now first).place ≡ Some to
          → is_unspecified to ≡ false → int_lt now (turned now first).retransmit_at ≡ false → source to ≡ o
          → Settles source servers (waiting_slot request first) (choice_from request now (turned now first) to o)
      asks to None there known due from_is = tt
      asks to (Some from) there known due from_is =
          let turn : Turn = turned now first in
          let after : Turn = sent_to to now turn in (
            not_due servers request to after (still first after refl) there known
                (in_future now turn.delay early (delayed_by first.timeout_at first some)),
            λ more. ap (λ c. walk_on (waiting_slot request turn) c more (walk (look source servers now) more))
                (ap (λ x. choice_at source request now x (slice_get (places servers request.mdns) x.place)) (still first turn refl)
                ∙ ap (λ o. choice_at source request now turn o) there
                ∙ cond-false _ _ _ known ∙ cond-false _ _ _ due ∙ ap (λ o. choice_from request now turn to o) from_is),
          )

      by_tests : (to : IpAddress) (unknown waits : Bool) → slice_get (places servers request.mdns) (turned now first).place ≡ Some to
          → is_unspecified to ≡ unknown → int_lt now (turned now first).retransmit_at ≡ waits
          → Settles source servers (waiting_slot request first)
          (cond unknown Fail (cond waits (Keep (turned now first)) (choice_from request now (turned now first) to (source to))))
      by_tests to true waits there known due = tt
      by_tests to false true there known due =
          not_due servers request to (turned now first) (still first (turned now first) refl) there known due
      by_tests to false false there known due = asks to (source to) there known due refl

      by_place : (o : Option IpAddress) → slice_get (places servers request.mdns) (turned now first).place ≡ o
          → Settles source servers (waiting_slot request first) (choice_at source request now (turned now first) o)
      by_place None there = tt
      by_place (Some to) there = by_tests to (is_unspecified to) (int_lt now (turned now first).retransmit_at) there refl refl

    settles_state : (state : QueryState) → IsTimedIn state
        → Settles source servers (Some (record { state = state })) (look_in source servers now state)
    settles_state (Pending waiting) timed = by_place waiting.request waiting.turn timed _ refl
    settles_state (Answered addresses) timed = λ source more. refl
    settles_state Failed timed = λ source more. refl

    settles : (slot : Option DnsQuery) → IsTimed slot → Settles source servers slot (look source servers now slot)
    settles None timed = λ source more. refl
    settles (Some query) timed = settles_state query.state timed

    module _ (later : IpAddress → Option IpAddress) where
      abbrev Again : Walk → Type 0
      Again (Quiet left) = walk (look later servers now) left ≡ Quiet left
      Again (Sends front slot request from to before after rest) =
          (walk (look later servers now) (front ++ with_turn after slot ∷ rest)
          ≡ behind (front ++ with_turn after slot ∷ []) (walk (look later servers now) rest))
          × (walk (look source servers now) (front ++ with_turn before slot ∷ rest)
          ≡ Sends front (with_turn before slot) request from to before after rest)

      behind_slot : (slot : Option DnsQuery) (w : Walk) → Stays servers slot → Again w → Again (behind (slot ∷ []) w)
      behind_slot slot (Quiet left) stays again = stays later left ∙ ap (behind (slot ∷ [])) again
      behind_slot slot (Sends front asked request from to before after rest) stays again = (
        stays later (front ++ with_turn after asked ∷ rest) ∙ ap (behind (slot ∷ [])) again.0
            ∙ behind-behind (slot ∷ []) (front ++ with_turn after asked ∷ []) (walk (look later servers now) rest),
        stays source (front ++ with_turn before asked ∷ rest) ∙ ap (behind (slot ∷ [])) again.1,
      )

      again_on : (slot : Option DnsQuery) (slots : Slots) (c : Choice) (w : Walk) → Settles source servers slot c → Again w
          → Again (walk_on slot c slots w)
      again_on slot slots Pass w stays again = behind_slot slot w stays again
      again_on slot slots (Keep turn) w stays again = behind_slot (with_turn turn slot) w stays again
      again_on slot slots Fail w stays again = behind_slot failed w (λ source more. refl) again
      again_on slot slots (Ask request from to before after) w stays again = (stays.0 later slots, stays.1 slots)

      again : (slots : Slots) → AllByRecursion IsTimed slots → Again (walk (look source servers now) slots)
      again [] timed = refl
      again (slot ∷ slots) timed =
          again_on slot slots (look source servers now slot) (walk (look source servers now) slots) (settles slot timed.0) (again slots timed.1)

      pub repeated : (slots : Slots) → All IsTimed slots → IsRepeated (look source servers now) (look later servers now) slots
      repeated slots timed =
          let all : Again (walk (look source servers now) slots) = again slots (recursion_from_All IsTimed slots timed) in
          record {
            quiet = λ left is. subst Again is all;
            taken = λ front rest slot request from to before after is. (subst Again is all).0;
            refused = λ front rest slot request from to before after is. (subst Again is all).1;
          }
