-- What a look of the client makes of a query, in the words of the history.
use Rattle.std.proofs.Common.{◌≡◌, ℕ, ◌<◌, Bool, true, false, cond, nat_lt, slice_get, List, [], ◌∷◌, length, Option, Some, None, pos, refl, sym, ◌∙◌, ap, subst, arith}
use Rattle.std.proofs.lemmas.Bool.{cond-true, cond-false, ltb-true, lt-ltb, lt-leb}
use Rattle.net_wire.specs.declared.address.IpAddress.{IpAddress}
use Rattle.net_wire.specs.declared.address.IpAddress.TheVariants as ip
use Rattle.net_wire.specs.declared.address.Ipv4Address.{Ipv4Address}
use Rattle.net_wire.specs.IpAddress.{is_unspecified}
use Rattle.dns_client.specs.declared.query.DnsQuery.{DnsQuery}
use Rattle.dns_client.specs.Looks.{Choice, places, Keep, Fail, choice_from, choice_at, look, with_turn, Walk, Sends, behind, walk_on}
use Rattle.dns_client.specs.Slots.{Slots}
use Rattle.dns_client.specs.Turns.{TurnValue, turned}
use Rattle.host_model.specs.declared.held.Held.{Held}
use Rattle.host_model.specs.Queries.{address_in}
use Rattle.host_model.specs.QueryLooks.{Around, Ask as Asked, Fails, Waits, deed_from, deed_at, looked, Seen, Kept, Named, seen_by, seen_at}
use Rattle.host_model.specs.QuerySlots.{Query, Slot, Free, Live, Over, is_due}
use Rattle.host_model.specs.QueryTurns.{Turn, turn_at, turn_of, asked_of, asked_after, with_sent, due_in, delay_after}
use Rattle.host_model.specs.Script.{time_limit}
use Rattle.net_host.specs.QueryEmitter.{source_for}
use Rattle.net_host.specs.QueryStanding.{turn_with, turn_for, standing_in, number_in}
use Rattle.net_host.proofs.QueryTurnLemmas.{delay_some, turned_on, turned_is, sent_is, same_turn}

-- the client's turn of a query
abbrev pub turn_in : Query → TurnValue
turn_in query = turn_for (asked_of query.looks) (turn_of query.looks)

-- a look at a slot, with the slots behind it and the looks at those
abbrev pub seen_walk : Option DnsQuery → Slots → Walk → Seen → Walk
seen_walk slot rest next (Kept kept) = behind (standing_in kept ∷ []) next
seen_walk slot rest next (Named ask refused sent) =
    Sends [] slot ask.request (ip.Ipv4 ask.from) (ip.Ipv4 ask.to) (turn_in refused) (turn_in sent) rest

module _ (around : Around) (held : Option Held) (from_is : around.from ≡ address_in held) (at : ℕ) (small : at < time_limit) where
  abbrev pub choice : Option DnsQuery → Choice
  choice slot = look (source_for held) around.servers (pos at) slot

  -- a slot that a further look leaves, and that is not due
  pub record IsSettled (slot : Slot) : Type 0 where
    pub again : (rest : Slots) (next : Walk) → walk_on (standing_in slot) (choice (standing_in slot)) rest next ≡ behind (standing_in slot ∷ []) next
    pub quiet : is_due at slot ≡ false

  -- what a look names: the query as it was refused and as it was sent, in the same slot
  pub record IsNamed (slot : Slot) (ask : Asked) (refused sent : Query) : Type 0 where
    pub settled : IsSettled (Live sent)
    pub refused_is : with_turn (turn_in refused) (standing_in slot) ≡ standing_in (Live refused)
    pub sent_is : with_turn (turn_in sent) (standing_in slot) ≡ standing_in (Live sent)
    pub place : (turn_in refused).place ≡ ask.place
    pub query : ask.query ≡ number_in slot
    pub refused_number : refused.number ≡ number_in slot
    pub sent_number : sent.number ≡ number_in slot

  abbrev pub IsSeen : Slot → Seen → Type 0
  IsSeen slot (Kept kept) = IsSettled kept × (number_in kept ≡ number_in slot)
  IsSeen slot (Named ask refused sent) = IsNamed slot ask refused sent

  -- a choice of the client is what the look does
  pub record LooksAs (slot : Slot) (chosen : Choice) (seen : Seen) : Type 0 where
    pub walk_is : (rest : Slots) (next : Walk) → walk_on (standing_in slot) chosen rest next ≡ seen_walk (standing_in slot) rest next seen
    pub seen_is : IsSeen slot seen

  over_settled : (number : ℕ) (addresses : List IpAddress) → IsSettled (Over number addresses)
  over_settled number [] = record { again = λ rest next. refl; quiet = refl }
  over_settled number (address ∷ more) = record { again = λ rest next. refl; quiet = refl }

  module _ (query : Query) where
    abbrev slot : Slot
    slot = Live query

    abbrev turn : Turn
    turn = turn_at at (turn_of query.looks)

    abbrev asked : Option Ipv4Address
    asked = asked_of query.looks

    abbrev place : ℕ → Option IpAddress
    place number = slice_get (places around.servers query.request.mdns) number

    abbrev choice_in : TurnValue → Choice
    choice_in value = choice_at (source_for held) query.request (pos at) value (place value.place)

    place_stays : (sent_to : Option Ipv4Address) → (with_sent at sent_to turn).place ≡ turn.place
    place_stays None = refl
    place_stays (Some to) = refl

    -- a query behind a look is not due, at a place with an address
    waits_settled : (sent_to : Option Ipv4Address) (to : IpAddress) → place turn.place ≡ Some to → is_unspecified to ≡ false
        → at < due_in (with_sent at sent_to turn).sent → IsSettled (Live (looked at sent_to query))
    waits_settled sent_to to there known early =
        let later : Turn = with_sent at sent_to turn in
        let value : TurnValue = turn_with (asked_after sent_to asked) later in
        let same : turned (pos at) value ≡ value = turned_on at small (asked_after sent_to asked) later
        ∙ ap (turn_with (asked_after sent_to asked)) (same_turn at small (turn_of query.looks) sent_to) in
        let kept : choice_in (turned (pos at) value) ≡ Keep value = ap choice_in same
        ∙ ap (λ o. choice_at (source_for held) query.request (pos at) value o) (ap place (place_stays sent_to) ∙ there)
        ∙ cond-false (is_unspecified to) _ _ known ∙ cond-true (nat_lt at (due_in later.sent)) _ _ (lt-ltb at (due_in later.sent) early) in
        record {
          again = λ rest next. ap (λ c. walk_on (standing_in (Live (looked at sent_to query))) c rest next) kept;
          quiet = lt-leb (due_in later.sent) at early;
        }

    asks : (h : Option Held) (to : IpAddress) → place turn.place ≡ Some to → is_unspecified to ≡ false
        → LooksAs slot (choice_from query.request (pos at) (turn_with asked turn) to (source_for h to)) (seen_by at query turn.place (deed_from (address_in h) to))
    asks None (ip.Ipv4 to) there known = record { walk_is = λ rest next. refl; seen_is = (over_settled query.number [], refl) }
    asks None (ip.Ipv6 to) there known = record { walk_is = λ rest next. refl; seen_is = (over_settled query.number [], refl) }
    asks (Some h) (ip.Ipv6 to) there known = record { walk_is = λ rest next. refl; seen_is = (over_settled query.number [], refl) }
    asks (Some h) (ip.Ipv4 to) there known =
        let some : 0 < delay_after (length turn.sent) = delay_some (length turn.sent) in
        record {
          walk_is = λ rest next.
              ap (λ t. Sends [] (standing_in slot) query.request (ip.Ipv4 h.address.address) (ip.Ipv4 to) (turn_with asked turn) t rest) (sent_is at small asked turn to);
          seen_is = record {
            settled = waits_settled (Some to) (ip.Ipv4 to) there known (omega arith);
            refused_is = refl;
            sent_is = refl;
            place = refl;
            query = refl;
            refused_number = refl;
            sent_number = refl;
          };
        }

    by_tests : (to : IpAddress) (unknown waits : Bool) → place turn.place ≡ Some to → is_unspecified to ≡ unknown → nat_lt at (due_in turn.sent) ≡ waits
        → LooksAs slot (cond unknown Fail (cond waits (Keep (turn_with asked turn)) (choice_from query.request (pos at) (turn_with asked turn) to (source_for held to))))
        (seen_by at query turn.place (cond unknown Fails (cond waits Waits (deed_from (address_in held) to))))
    by_tests to true waits there known early = record { walk_is = λ rest next. refl; seen_is = (over_settled query.number [], refl) }
    by_tests to false true there known early = record {
      walk_is = λ rest next. refl;
      seen_is = (waits_settled None to there known (ltb-true at (due_in turn.sent) early), refl);
    }
    by_tests to false false there known early = asks held to there known

    by_place : (o : Option IpAddress) → place turn.place ≡ o
        → LooksAs slot (choice_at (source_for held) query.request (pos at) (turn_with asked turn) o)
        (seen_by at query turn.place (deed_at (address_in held) (due_in turn.sent) at o))
    by_place None there = record { walk_is = λ rest next. refl; seen_is = (over_settled query.number [], refl) }
    by_place (Some to) there = by_tests to (is_unspecified to) (nat_lt at (due_in turn.sent)) there refl refl

    live_looks : LooksAs slot (choice (standing_in slot)) (seen_at around at slot)
    live_looks =
        let S : Option Ipv4Address → Seen = λ from. seen_by at query turn.place (deed_at from (due_in turn.sent) at (place turn.place)) in
        subst (λ c. LooksAs slot c (seen_at around at slot)) (sym (ap choice_in (turned_is at small query.looks)))
        (subst (λ seen. LooksAs slot (choice_in (turn_with asked turn)) seen) (sym (ap S from_is)) (by_place (place turn.place) refl))

  pub looks_as : (slot : Slot) → LooksAs slot (choice (standing_in slot)) (seen_at around at slot)
  looks_as Free = record { walk_is = λ rest next. refl; seen_is = (record { again = λ rest next. refl; quiet = refl }, refl) }
  looks_as (Live query) = live_looks query
  looks_as (Over number []) = record { walk_is = λ rest next. refl; seen_is = (over_settled number [], refl) }
  looks_as (Over number (address ∷ more)) = record { walk_is = λ rest next. refl; seen_is = (over_settled number (address ∷ more), refl) }
