-- How far a query has come, by the looks at it (RFC 1035, section 7.2): each place of the list of servers has a
-- turn of ten seconds, in which the message is sent 1, 2 and 4 seconds after the one before.
use Rattle.std.specs.Prelude.{ℕ, ◌+◌, ◌*◌, ◌^◌, nat_lt, List, [], ◌∷◌, length, Option, Some, None, if◌then◌else◌}
use Rattle.net_wire.specs.declared.address.Ipv4Address.{Ipv4Address}

-- a look at a query: when it was, and where a message went, if one was sent
pub record Look : Type 0 where
  pub at : ℕ
  pub sent_to : Option Ipv4Address

-- a turn: when it began, its place in the list, and when messages were sent in it, the newest first
pub record Turn : Type 0 where
  pub begin : ℕ
  pub place : ℕ
  pub sent : List ℕ

abbrev pub second : ℕ
second = 1000000

abbrev pub turn_span : ℕ
turn_span = 10 * second

-- the turn of a look, by that of the look before: a look more than ten seconds after the turn began begins the
-- next one
abbrev pub turn_at : ℕ → Option Turn → Turn
turn_at at None = record { begin = at; place = 0; sent = [] }
turn_at at (Some turn) =
    if nat_lt (turn.begin + turn_span) at then record { begin = at; place = turn.place + 1; sent = [] } else turn

abbrev pub with_sent : ℕ → Option Ipv4Address → Turn → Turn
with_sent at None turn = turn
with_sent at (Some to) turn = record turn { sent = at ∷ turn.sent }

-- the turn of the newest look, if there is one
abbrev pub turn_of : List Look → Option Turn
turn_of [] = None
turn_of (look ∷ before) = Some (with_sent look.at look.sent_to (turn_at look.at (turn_of before)))

-- where the last message went, if there was one
abbrev pub asked_after : Option Ipv4Address → Option Ipv4Address → Option Ipv4Address
asked_after None asked = asked
asked_after (Some to) asked = Some to

abbrev pub asked_of : List Look → Option Ipv4Address
asked_of [] = None
asked_of (look ∷ before) = asked_after look.sent_to (asked_of before)

-- how long after a message with so many before it in its turn the next one is sent
abbrev pub delay_after : ℕ → ℕ
delay_after earlier = if nat_lt (2 ^ earlier) 10 then 2 ^ earlier * second else turn_span

-- when the next message of a turn is due, by the times of those before: the first one at once
abbrev pub due_in : List ℕ → ℕ
due_in [] = 0
due_in (last ∷ older) = last + delay_after (length older)

-- a query that was not looked at yet is due at once
abbrev pub due_of : Option Turn → ℕ
due_of None = 0
due_of (Some turn) = due_in turn.sent
