-- What a host does with its DNS client in an event: it dispatches while a query is due.
use Rattle.std.specs.Prelude.{◌≡◌, ℤ, int_lt, not, Bool, true, false, Option, Some, None, IsSome, Result, Ok, Err}
use Rattle.net_wire.specs.declared.error.EmitError.{EmitError}
use Rattle.net_wire.specs.declared.error.EmitError.TheVariants.{Unresolved}
use Rattle.dns_client.specs.Client.{Client, hop_limit_of}
use Rattle.dns_client.specs.Looks.{look, walk, Dispatched}
use Rattle.dns_client.specs.Slots.{least_due}
use Rattle.net_host.specs.declared.emitter.Emitter.{Emitter}
use Rattle.net_host.specs.QueryEmitter.{source_for, TakesQuery, RefusesQuery}

-- a due is not behind now
abbrev pub is_reached : Option ℤ → ℤ → Bool
is_reached None now = false
is_reached (Some due) now = not (int_lt now due)

-- a dispatch of the client
pub record DispatchesQueries (now : ℤ) (result : Result (Unit {0}) EmitError) (client next : Client)
    (out later : Emitter) : Type 0 where
  pub walks : Dispatched TakesQuery RefusesQuery (hop_limit_of client)
      (walk (look (source_for out.held) client.servers now) client.slots) result next.slots out later
  pub others : next ≡ record client { slots = next.slots }

-- No query is due; or one is, and after a dispatch the same; or the hop of a message is not known, and that ends
-- it.
pub data PolledQueries : ℤ → Client → Emitter → Client → Emitter → Type 0 where
  IsQuiet : (now : ℤ) (client : Client) (out : Emitter) → is_reached (least_due client.slots) now ≡ false
      → PolledQueries now client out client out
  GoesOn : (now : ℤ) (client next last : Client) (out mid later : Emitter)
      → is_reached (least_due client.slots) now ≡ true
      → DispatchesQueries now (Ok tt) client next out mid
      → PolledQueries now next mid last later → PolledQueries now client out last later
  Waits : (now : ℤ) (client next : Client) (out later : Emitter)
      → is_reached (least_due client.slots) now ≡ true
      → DispatchesQueries now (Err Unresolved) client next out later
      → PolledQueries now client out next later

-- the slots of a client were lent
abbrev pub AreLent : Client → Type 0
AreLent client = IsSome client.storage
