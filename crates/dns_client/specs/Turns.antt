-- How far a query has come, in turns: one for each place of the list that it asks (RFC 1035, section 7.2).
use Rattle.std.specs.Prelude.{ℕ, ◌+◌, ◌*◌, ◌<◌, ◌≤◌, nat_lt, Option, Some, None, ℤ, pos, int_lt, if◌then◌else◌}
use Rattle.net_wire.specs.declared.address.IpAddress.{IpAddress}
use Rattle.net_wire.specs.Time.{instant_after}
use Rattle.dns_client.specs.declared.query.Turn.{Turn}

-- a list has three places at most, and a message is sent again within ten seconds
pub record IsShort (turn : Turn) : Type 0 where
  pub near : turn.place < 3
  pub some : 0 < turn.delay
  pub short : turn.delay ≤ 10000000

-- A turn is over where its timeout is before now: the next place is asked, from the beginning. It has its
-- timeout at the first look.
abbrev pub turned_by : Option ℤ → ℤ → Turn → Turn
turned_by None now turn = record turn { timeout_at = Some (instant_after now 10000000) }
turned_by (Some timeout) now turn =
    if int_lt timeout now
    then record {
      timeout_at = Some (instant_after now 10000000);
      retransmit_at = pos 0;
      delay = 1000000;
      place = turn.place + 1;
      asked = turn.asked;
    }
    else turn

abbrev pub turned : ℤ → Turn → Turn
turned now turn = turned_by turn.timeout_at now turn

-- a message was sent: the next one is due after the delay, which doubles up to ten seconds
abbrev pub sent_to : IpAddress → ℤ → Turn → Turn
sent_to to now turn = record {
  timeout_at = turn.timeout_at;
  retransmit_at = instant_after now turn.delay;
  delay = if nat_lt (turn.delay * 2) 10000000 then turn.delay * 2 else 10000000;
  place = turn.place;
  asked = Some to;
}

-- a turn, for those who speak of clients from outside
abbrev pub TurnValue : Type 0
TurnValue = Turn
