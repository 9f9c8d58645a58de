-- The queries of a host: 16 slots, each free or with a query.
use Rattle.std.specs.Prelude.{ℕ, ◌∷◌, ◌||◌, nat_le, Bool, false, List, [], replicate}
use Rattle.net_wire.specs.declared.address.IpAddress.{IpAddress}
use Rattle.dns_client.specs.Waiting.{RequestValue}
use Rattle.host_model.specs.QueryTurns.{Look, turn_of, due_of}

-- a query: its number among the query events, what it asks for, and the looks at it, the newest first
pub record Query : Type 0 where
  pub number : ℕ
  pub request : RequestValue
  pub looks : List Look

-- Over is what a query is that ended in this event: with addresses, or without, where it failed.
pub data Slot : Type 0 where
  Free : Slot
  Live : Query → Slot
  Over : ℕ → List IpAddress → Slot

abbrev pub no_queries : List Slot
no_queries = replicate 16 Free

-- what ended in an event is gone behind it
abbrev pub freed : Slot → Slot
freed Free = Free
freed (Live query) = Live query
freed (Over number addresses) = Free

-- a query is due when the next message of its turn is
abbrev pub is_due : ℕ → Slot → Bool
is_due at Free = false
is_due at (Live query) = nat_le (due_of (turn_of query.looks)) at
is_due at (Over number addresses) = false

abbrev pub is_any_due : ℕ → List Slot → Bool
is_any_due at [] = false
is_any_due at (slot ∷ slots) = is_due at slot || is_any_due at slots
