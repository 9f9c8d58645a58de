-- When a client is polled next.
use Rattle.std.proofs.Common.{◌≡◌, ℕ, ◌||◌, Bool, true, false, cond, not, nat_le, nat_lt, List, [], ◌∷◌, map, Option, Some, None, ℤ, pos, int_lt, refl, sym, ◌∙◌, ap, ap₂, arith}
use Rattle.std.proofs.lemmas.Bool.{ltb-true, ltb-false, le-leb, lt-leb}
use Rattle.std.proofs.lemmas.Int.{ints}
use Rattle.net_wire.specs.declared.address.Ipv4Address.{Ipv4Address}
use Rattle.dns_client.specs.Slots.{earlier, due_of, least_due}
use Rattle.host_model.specs.QuerySlots.{Slot, Free, Live, Over, is_due, is_any_due}
use Rattle.host_model.specs.QueryTurns.{Turn, turn_of, asked_of, due_in}
use Rattle.host_model.specs.QueryTurns as turns
use Rattle.net_host.specs.QueryPolling.{is_reached}
use Rattle.net_host.specs.QueryStanding.{turn_for, standing_in}

not_before : (a b : ℕ) → not (nat_lt a b) ≡ nat_le b a
not_before a b = by (nat_lt a b) refl
  where
    by : (before : Bool) → nat_lt a b ≡ before → not before ≡ nat_le b a
    by true is = sym (lt-leb b a (ltb-true a b is))
    by false is = sym (le-leb b a (ltb-false a b is))

or_no : (x : Bool) → x ≡ (x || false)
or_no true = refl
or_no false = refl

least_reached : (one other now : ℤ) → not (int_lt now (cond (int_lt other one) other one)) ≡ (not (int_lt now one) || not (int_lt now other))
least_reached one other now = by (int_lt other one) (int_lt now one) (int_lt now other) refl refl refl
  where
    by : (less before_one before_other : Bool) → int_lt other one ≡ less → int_lt now one ≡ before_one → int_lt now other ≡ before_other
        → not (int_lt now (cond less other one)) ≡ (not before_one || not before_other)
    by true true true less is_one is_other = ap not is_other
    by true true false less is_one is_other = ap not is_other
    by true false true less is_one is_other = absurd (omega (arith, ints))
    by true false false less is_one is_other = ap not is_other
    by false true true less is_one is_other = ap not is_one
    by false true false less is_one is_other = absurd (omega (arith, ints))
    by false false true less is_one is_other = ap not is_one
    by false false false less is_one is_other = ap not is_one

pub reached_either : (one other : Option ℤ) (now : ℤ) → is_reached (earlier one other) now ≡ (is_reached one now || is_reached other now)
reached_either None other now = refl
reached_either (Some one) None now = or_no (is_reached (Some one) now)
reached_either (Some one) (Some other) now = least_reached one other now

due_by : (at : ℕ) (asked : Option Ipv4Address) (turn : Option Turn)
    → not (int_lt (pos at) (turn_for asked turn).retransmit_at) ≡ nat_le (turns.due_of turn) at
due_by at asked None = not_before at 0
due_by at asked (Some turn) = not_before at (due_in turn.sent)

pub due_is : (at : ℕ) (slot : Slot) → is_reached (due_of (standing_in slot)) (pos at) ≡ is_due at slot
due_is at Free = refl
due_is at (Live query) = due_by at (asked_of query.looks) (turn_of query.looks)
due_is at (Over number []) = refl
due_is at (Over number (address ∷ more)) = refl

-- it is when a query is due
pub reached_is : (at : ℕ) (slots : List Slot) → is_reached (least_due (map standing_in slots)) (pos at) ≡ is_any_due at slots
reached_is at [] = refl
reached_is at (slot ∷ slots) =
    reached_either (due_of (standing_in slot)) (least_due (map standing_in slots)) (pos at)
    ∙ ap₂ (λ one other. one || other) (due_is at slot) (reached_is at slots)
