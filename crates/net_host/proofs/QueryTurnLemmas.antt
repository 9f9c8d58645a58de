-- How a client's turn moves, in the words of the history.
use Rattle.std.proofs.Common.{◌≡◌, ℕ, zero, suc, ◌+◌, ◌*◌, ◌^◌, ◌<◌, ◌≤◌, Bool, true, false, cond, if◌then◌else◌, nat_lt, List, [], ◌∷◌, length, Option, Some, None, ℤ, pos, refl, sym, ◌∙◌, ap, ap₂, arith, pow_pos, pow_mono}
use Rattle.std.specs.Option.{option_map}
use Rattle.std.proofs.lemmas.Bool.{cond-false, cond_both, ltb-true, le-ltb}
use Rattle.net_wire.specs.declared.address.IpAddress.TheVariants as ip
use Rattle.net_wire.specs.declared.address.Ipv4Address.{Ipv4Address}
use Rattle.net_wire.specs.Time.{instant_after}
use Rattle.dns_client.specs.Turns.{TurnValue, turned, sent_to}
use Rattle.host_model.specs.QueryTurns.{Look, Turn, second, turn_span, turn_at, turn_of, asked_of, with_sent, delay_after}
use Rattle.host_model.specs.Script.{time_limit}
use Rattle.net_host.specs.QueryStanding.{turn_with, turn_for}
use Rattle.net_host.proofs.InstantLemmas.{after_is}

-- from the fifth message on the next is sent ten seconds later
long : (count : ℕ) → 4 ≤ count → delay_after count ≡ turn_span
long count far =
    let power : 2 ^ 4 ≤ 2 ^ count = pow_mono far in
    let past : 10 ≤ 2 ^ count = omega arith in
    cond-false (nat_lt (2 ^ count) 10) (2 ^ count * second) turn_span (le-ltb (2 ^ count) 10 past)

abbrev doubled : ℕ → ℕ
doubled delay = if nat_lt (delay * 2) 10000000 then delay * 2 else 10000000

doubles : (count : ℕ) → doubled (delay_after count) ≡ delay_after (suc count)
doubles zero = refl
doubles (suc zero) = refl
doubles (suc (suc zero)) = refl
doubles (suc (suc (suc zero))) = refl
doubles (suc (suc (suc (suc n)))) =
    ap doubled (long (suc (suc (suc (suc n)))) (omega arith)) ∙ sym (long (suc (suc (suc (suc (suc n))))) (omega arith))

pub delay_some : (count : ℕ) → 0 < delay_after count
delay_some count =
    let some : 0 < 2 ^ count = pow_pos count in
    cond_both (nat_lt (2 ^ count) 10) (2 ^ count * second) turn_span (λ d. 0 < d) (λ is. omega arith) (λ is. omega arith)

delay_short : (count : ℕ) → delay_after count ≤ turn_span
delay_short count =
    cond_both (nat_lt (2 ^ count) 10) (2 ^ count * second) turn_span (λ d. d ≤ turn_span)
    (λ is. let low : 2 ^ count < 10 = ltb-true (2 ^ count) 10 is in omega arith)
    (λ is. omega arith)

either : {A B : Type 0} (f : A → B) (b : Bool) (x : B) (y z : A) → x ≡ f y → cond b x (f z) ≡ f (cond b y z)
either f true x y z same = same
either f false x y z same = refl

-- a turn that begins at a look
abbrev begun : Option Ipv4Address → ℕ → ℤ → TurnValue
begun asked place timeout = record {
  timeout_at = Some timeout;
  retransmit_at = pos 0;
  delay = 1000000;
  place = place;
  asked = option_map ip.Ipv4 asked;
}

-- a message that was sent
abbrev taken : Turn → Ipv4Address → ℤ → ℕ → TurnValue
taken turn to due delay = record {
  timeout_at = Some (pos (turn.begin + turn_span));
  retransmit_at = due;
  delay = delay;
  place = turn.place;
  asked = Some (ip.Ipv4 to);
}

module _ (at : ℕ) (small : at < time_limit) where
  timeout_is : instant_after (pos at) 10000000 ≡ pos (at + turn_span)
  timeout_is = after_is at turn_span (omega arith)

  pub turned_on : (asked : Option Ipv4Address) (turn : Turn) → turned (pos at) (turn_with asked turn) ≡ turn_with asked (turn_at at (Some turn))
  turned_on asked turn =
      either (turn_with asked) (nat_lt (turn.begin + turn_span) at) (begun asked (turn.place + 1) (instant_after (pos at) 10000000))
      (record { begin = at; place = turn.place + 1; sent = [] }) turn (ap (begun asked (turn.place + 1)) timeout_is)

  -- a look first ends a turn that is over
  pub turned_is : (looks : List Look) → turned (pos at) (turn_for (asked_of looks) (turn_of looks)) ≡ turn_with (asked_of looks) (turn_at at (turn_of looks))
  turned_is [] = ap (begun None 0) timeout_is
  turned_is (look ∷ before) = turned_on (asked_of (look ∷ before)) (with_sent look.at look.sent_to (turn_at look.at (turn_of before)))

  -- a message moves the due
  pub sent_is : (asked : Option Ipv4Address) (turn : Turn) (to : Ipv4Address) → sent_to (ip.Ipv4 to) (pos at) (turn_with asked turn) ≡ turn_with (Some to) (with_sent at (Some to) turn)
  sent_is asked turn to =
      let short : delay_after (length turn.sent) ≤ turn_span = delay_short (length turn.sent) in
      ap₂ (taken turn to) (after_is at (delay_after (length turn.sent)) (omega arith)) (doubles (length turn.sent))

  -- a turn that a look goes by is not over at that look
  not_over : (turn : Option Turn) → nat_lt ((turn_at at turn).begin + turn_span) at ≡ false
  not_over None = le-ltb (at + turn_span) at (omega arith)
  not_over (Some turn) =
      cond_both (nat_lt (turn.begin + turn_span) at) (record { begin = at; place = turn.place + 1; sent = [] }) turn
      (λ t. nat_lt (t.begin + turn_span) at ≡ false)
      (λ over. le-ltb (at + turn_span) at (omega arith)) (λ going. going)

  pub same_turn : (turn : Option Turn) (to : Option Ipv4Address) → turn_at at (Some (with_sent at to (turn_at at turn))) ≡ with_sent at to (turn_at at turn)
  same_turn turn None = cond-false (nat_lt ((turn_at at turn).begin + turn_span) at) _ _ (not_over turn)
  same_turn turn (Some to) = cond-false (nat_lt ((turn_at at turn).begin + turn_span) at) _ _ (not_over turn)
