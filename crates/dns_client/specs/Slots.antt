-- The slots of queries.
use Rattle.std.specs.Prelude.{◌≡◌, ℕ, suc, List, [], ◌∷◌, Option, Some, None, Result, slice_index_or, slice_set, int_lt, ℤ, if◌then◌else◌}
use Rattle.arrayvec.specs.ArrayVec.{ArrayVec}
use Rattle.net_wire.specs.declared.address.IpAddress.{IpAddress}
use Rattle.dns_client.specs.declared.error.GetQueryResultError.{GetQueryResultError}
use Rattle.dns_client.specs.declared.query.QueryHandle.{QueryHandle}
use Rattle.dns_client.specs.declared.query.DnsQuery.{DnsQuery}
use Rattle.dns_client.specs.declared.query.QueryState.{QueryState}
use Rattle.dns_client.specs.declared.query.QueryState.TheVariants.{Pending, Answered, Failed}
use Rattle.dns_client.specs.Query.{query_result}

abbrev pub Slots : Type 0
Slots = List (Option DnsQuery)

-- the place of the lowest free slot, or behind all slots
abbrev pub first_free : Slots → ℕ
first_free [] = 0
first_free (None ∷ slots) = 0
first_free (Some query ∷ slots) = suc (first_free slots)

-- the slots with a query in the lowest free one, or in a new one behind them
abbrev pub with_new : DnsQuery → Slots → Slots
with_new new [] = Some new ∷ []
with_new new (None ∷ slots) = Some new ∷ slots
with_new new (Some query ∷ slots) = Some query ∷ with_new new slots

-- the slot of a handle
abbrev pub slot_at : Slots → QueryHandle → Option DnsQuery
slot_at slots handle = slice_index_or slots handle.0 None

-- the handle of a slot, where a query is in it
abbrev pub handle_in : ℕ → Option DnsQuery → Option QueryHandle
handle_in slot None = None
handle_in slot (Some query) = Some (record { 0 = slot })

abbrev pub handle_at : Slots → ℕ → Option QueryHandle
handle_at slots slot = handle_in slot (slice_index_or slots slot None)

-- the slot of a handle is free
abbrev pub without : Slots → QueryHandle → Slots
without slots handle = slice_set slots handle.0 None

-- the slots once the result of a query was asked for: it stays while it waits, and else its slot is free
abbrev pub freed_in : QueryState → Slots → QueryHandle → Slots
freed_in (Pending pending) slots handle = slots
freed_in (Answered addresses) slots handle = without slots handle
freed_in Failed slots handle = without slots handle

-- what the query of a handle gives, and what it leaves of the slots
pub record Gives (old : Slots) (handle : QueryHandle)
    (result : Result (ArrayVec IpAddress) GetQueryResultError) (new : Slots) : Type 0 where
  pub query : DnsQuery
  pub there : slot_at old handle ≡ Some query
  pub value : result ≡ query_result query
  pub freed : new ≡ freed_in query.state old handle

-- the earlier of two instants, if there are any
abbrev pub earlier : Option ℤ → Option ℤ → Option ℤ
earlier None other = other
earlier (Some one) None = Some one
earlier (Some one) (Some other) = Some (if int_lt other one then other else one)

-- an instant, if it is behind the last one, where there was one
abbrev pub behind : Option ℤ → Option ℤ → Option ℤ
behind None at = at
behind (Some last) None = None
behind (Some last) (Some at) = if int_lt last at then Some at else None

-- when a slot is due, if it waits
abbrev pub due_in : QueryState → Option ℤ
due_in (Pending pending) = Some pending.turn.retransmit_at
due_in (Answered addresses) = None
due_in Failed = None

abbrev pub due_of : Option DnsQuery → Option ℤ
due_of None = None
due_of (Some query) = due_in query.state

-- the least due of the queries that wait
abbrev pub least_due : Slots → Option ℤ
least_due [] = None
least_due (slot ∷ slots) = earlier (due_of slot) (least_due slots)

-- and of those that are due behind an instant
abbrev pub least_due_behind : Option ℤ → Slots → Option ℤ
least_due_behind last [] = None
least_due_behind last (slot ∷ slots) = earlier (behind last (due_of slot)) (least_due_behind last slots)
