-- How often one query asks one place, over all looks at it.
use Rattle.std.specs.Prelude.{ℕ, ◌+◌, ◌-◌, ◌^◌, ◌≤◌, ◌==◌, ◌&&◌, Bool, List, [], ◌∷◌, Option, Some, ℤ, pos, ◌≤ℤ◌, ⊤, if◌then◌else◌}
use Rattle.net_wire.specs.declared.address.IpAddress.{IpAddress}
use Rattle.dns_client.specs.declared.query.DnsQuery.{DnsQuery}
use Rattle.dns_client.specs.Looks.{Choice, Pass, Keep, Fail, Ask, look, with_turn}
use Rattle.dns_client.specs.Query.{new_query}
use Rattle.dns_client.specs.Response.{failed}
use Rattle.dns_client.specs.Waiting.{RequestValue}

-- a look at a query: the source addresses, the servers and the time of the call, and whether its message is
-- taken
pub record QueryLook : Type 0 where
  pub source : IpAddress → Option IpAddress
  pub servers : List IpAddress
  pub now : ℤ
  pub is_taken : Bool

-- what a look leaves of a slot
abbrev pub left_by : Bool → Option DnsQuery → Choice → Option DnsQuery
left_by is_taken slot Pass = slot
left_by is_taken slot (Keep turn) = with_turn turn slot
left_by is_taken slot Fail = failed
left_by is_taken slot (Ask request from to before after) = with_turn (if is_taken then after else before) slot

abbrev pub choice_of : QueryLook → Option DnsQuery → Choice
choice_of one slot = look one.source one.servers one.now slot

-- the slot of a query behind some looks, the newest first
abbrev pub slot_behind : RequestValue → List QueryLook → Option DnsQuery
slot_behind request [] = Some (new_query request)
slot_behind request (one ∷ before) =
    left_by one.is_taken (slot_behind request before) (choice_of one (slot_behind request before))

-- the messages of a look to a place of the list
abbrev pub sent_by : ℕ → Bool → Choice → ℕ
sent_by place is_taken Pass = 0
sent_by place is_taken (Keep turn) = 0
sent_by place is_taken Fail = 0
sent_by place is_taken (Ask request from to before after) =
    if is_taken && (before.place == place) then 1 else 0

-- the messages of a query to a place
abbrev pub messages_to : ℕ → RequestValue → List QueryLook → ℕ
messages_to place request [] = 0
messages_to place request (one ∷ before) =
    sent_by place one.is_taken (choice_of one (slot_behind request before)) + messages_to place request before

-- looks whose times never fall, the newest first, and at most this one
abbrev pub AreUpTo : ℤ → List QueryLook → Type 0
AreUpTo latest [] = ⊤
AreUpTo latest (one ∷ before) = (one.now ≤ℤ latest) × AreUpTo one.now before

-- By the looks before the last instant, a query sends at most four messages to one place: within a turn,
-- which ends ten seconds after its first look, they are 1, 2 and 4 seconds apart, and a fifth would come 8
-- seconds after the fourth.
abbrev pub FourMessages : Type 0
FourMessages = (request : RequestValue) (looks : List QueryLook) (place : ℕ)
    → AreUpTo (pos (2 ^ 63 - 2)) looks → messages_to place request looks ≤ 4
