-- What a host does with its DHCP client in an event: it dispatches while the client is due.
use Rattle.std.specs.Prelude.{ℕ, ◌≤ℤ◌, ◌<ℤ◌, Ok, Err}
use Rattle.net_wire.specs.declared.error.Context.{Context}
use Rattle.net_wire.specs.declared.error.EmitError.TheVariants.{Unresolved}
use Rattle.dhcp_client.specs.Client.{Client, poll_at_of}
use Rattle.dhcp_client.specs.Config.{AreSettingsWritable}
use Rattle.dhcp_client.specs.Ending.{HasTimeouts, IsOrdered}
use Rattle.dhcp_client.specs.Plan.{plan_for, Dispatched}
use Rattle.net_host.specs.declared.emitter.Emitter.{Emitter}
use Rattle.net_host.specs.Emitter.{TakesMessage, RefusesMessage}

-- The client is not due; or it is due, and after a dispatch the same; or the hop of its message is not known,
-- and that ends it.
pub data Polled : Context → ℕ → Client → Emitter → Client → Emitter → Type 0 where
  IsQuiet : (cx : Context) (word : ℕ) (client : Client) (out : Emitter) → cx.now <ℤ poll_at_of client.state
      → Polled cx word client out client out
  GoesOn : (cx : Context) (word : ℕ) (client next last : Client) (out mid later : Emitter)
      → poll_at_of client.state ≤ℤ cx.now
      → Dispatched TakesMessage RefusesMessage (plan_for client cx word) (Ok tt) client next out mid
      → Polled cx word next mid last later → Polled cx word client out last later
  Waits : (cx : Context) (word : ℕ) (client next : Client) (out later : Emitter)
      → poll_at_of client.state ≤ℤ cx.now
      → Dispatched TakesMessage RefusesMessage (plan_for client cx word) (Err Unresolved) client next out later
      → Polled cx word client out next later

-- what a host relies on in its client: its dues are in order, each message moves them, and can be written
pub record IsReady (client : Client) (ip_mtu : ℕ) : Type 0 where
  pub ordered : IsOrdered client.state
  pub timeouts : HasTimeouts client.settings.retry
  pub writable : AreSettingsWritable client.settings ip_mtu
