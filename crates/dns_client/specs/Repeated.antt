-- Looks again: what a further call at the same instant does.
use Rattle.std.specs.Prelude.{◌≡◌, ◌-◌, ◌^◌, ◌<◌, List, [], ◌∷◌, ◌++◌, Option, Some, None, ℤ, pos, ◌<ℤ◌, ⊤}
use Rattle.std.specs.List.{All}
use Rattle.net_wire.specs.declared.address.IpAddress.{IpAddress}
use Rattle.dns_client.specs.declared.query.DnsQuery.{DnsQuery}
use Rattle.dns_client.specs.declared.query.QueryState.{QueryState}
use Rattle.dns_client.specs.declared.query.QueryState.TheVariants.{Pending, Answered, Failed}
use Rattle.dns_client.specs.declared.query.Turn.{Turn}
use Rattle.dns_client.specs.Looks.{Choice, look, with_turn, Quiet, Sends, behind, walk}
use Rattle.dns_client.specs.Slots.{Slots}
use Rattle.dns_client.specs.Waiting.{RequestValue}

-- the last instant there is; a due that would lie behind it is at it
abbrev pub last_instant : ℤ
last_instant = pos (2 ^ 63 - 1)

-- a query that waits sends again after some time
abbrev pub IsTimedIn : QueryState → Type 0
IsTimedIn (Pending waiting) = 0 < waiting.turn.delay
IsTimedIn (Answered addresses) = ⊤
IsTimedIn Failed = ⊤

abbrev pub IsTimed : Option DnsQuery → Type 0
IsTimed None = ⊤
IsTimed (Some query) = IsTimedIn query.state

-- Behind a walk comes a further one, whose looks may have other source addresses. What a walk without a
-- message left, it leaves. Behind a message that was taken it goes on at the slots that were not looked at. A
-- message that was refused is asked for again, and nothing else changes, as long as the source addresses are
-- the same.
pub record IsRepeated (plan later : Option DnsQuery → Choice) (slots : Slots) : Type 0 where
  pub quiet : (left : Slots) → walk plan slots ≡ Quiet left → walk later left ≡ Quiet left
  pub taken : (front rest : Slots) (slot : Option DnsQuery) (request : RequestValue) (from to : IpAddress)
      (before after : Turn)
      → walk plan slots ≡ Sends front slot request from to before after rest
      → walk later (front ++ with_turn after slot ∷ rest)
      ≡ behind (front ++ with_turn after slot ∷ []) (walk later rest)
  pub refused : (front rest : Slots) (slot : Option DnsQuery) (request : RequestValue) (from to : IpAddress)
      (before after : Turn)
      → walk plan slots ≡ Sends front slot request from to before after rest
      → walk plan (front ++ with_turn before slot ∷ rest)
      ≡ Sends front (with_turn before slot) request from to before after rest

-- A second look at the same instant changes nothing. At the last instant no due lies behind now.
abbrev pub SecondLookChangesNothing : Type 0
SecondLookChangesNothing =
    (source later : IpAddress → Option IpAddress) (servers : List IpAddress) (now : ℤ) (slots : Slots)
    → now <ℤ last_instant → All IsTimed slots
    → IsRepeated (look source servers now) (look later servers now) slots
