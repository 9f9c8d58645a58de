-- What polling makes of a client.
use Rattle.std.proofs.Common.{◌≡◌, ℕ, ◌<◌, Ok, Err, pos, subst, refl, arith}
use Rattle.net_wire.specs.declared.error.Context.{Context}
use Rattle.net_wire.specs.declared.error.EmitError.TheVariants.{Unresolved}
use Rattle.dhcp_client.specs.declared.state.ClientState.{ClientState}
use Rattle.dhcp_client.specs.Client.{Client, poll_at_of, after_reset}
use Rattle.dhcp_client.specs.Messages.{Outgoing}
use Rattle.dhcp_client.specs.Plan.{Plan, Send, Restart, Dispatched}
use Rattle.net_host.specs.declared.emitter.Emitter.{Emitter}
use Rattle.net_host.specs.Emitter.{TakesMessage, RefusesMessage}
use Rattle.net_host.specs.Polling.{Polled, IsQuiet, GoesOn, Waits}
use Rattle.net_host.proofs.PollingLemmas.{pos_le}

-- a message that was sent: what the emitter and the client are then
pub took : (plan : Plan) (outgoing : Outgoing) (before after : ClientState) (old new : Client) (out later : Emitter)
    → plan ≡ Send outgoing before after → Dispatched TakesMessage RefusesMessage plan (Ok tt) old new out later
    → TakesMessage out later outgoing × (new ≡ record old { state = after; transaction_id = outgoing.message.transaction_id })
took plan outgoing before after old new out later is_send done =
    let P : Plan → Type 0 = λ p. Dispatched TakesMessage RefusesMessage p (Ok tt) old new out later in
    let sent = subst P is_send done in
    (sent.0.ok, sent.1)

-- a message that was refused: the emitter stays, and so does the client but for its state
pub refused : (plan : Plan) (outgoing : Outgoing) (before after : ClientState) (old new : Client) (out later : Emitter)
    → plan ≡ Send outgoing before after → Dispatched TakesMessage RefusesMessage plan (Err Unresolved) old new out later
    → RefusesMessage out later outgoing × (new ≡ record old { state = before })
refused plan outgoing before after old new out later is_send done =
    let P : Plan → Type 0 = λ p. Dispatched TakesMessage RefusesMessage p (Err Unresolved) old new out later in
    let sent = subst P is_send done in
    (sent.0.unresolved refl, sent.2)

-- a client that began anew: it sent nothing
pub began_anew : (plan : Plan) (old new : Client) (out later : Emitter)
    → plan ≡ Restart → Dispatched TakesMessage RefusesMessage plan (Ok tt) old new out later
    → (new ≡ after_reset old) × (later ≡ out)
began_anew plan old new out later is_restart done =
    let P : Plan → Type 0 = λ p. Dispatched TakesMessage RefusesMessage p (Ok tt) old new out later in
    let anew = subst P is_restart done in
    (anew.1, anew.2)

-- polling ends with a client that is not due
pub ended : (cx : Context) (word at due : ℕ) (client last : Client) (out later : Emitter) → cx.now ≡ pos at → poll_at_of client.state ≡ pos due
    → at < due → Polled cx word client out last later → (last ≡ client) × (later ≡ out)
ended cx word at due client last out later is_now is_due early (IsQuiet _ _ _ _ _) = (refl, refl)
ended cx word at due client last out later is_now is_due early (GoesOn _ _ _ next _ _ mid _ on_time done more) =
    absurd (omega (arith, pos_le due at (rw (← is_due, ← is_now) on_time)))
ended cx word at due client last out later is_now is_due early (Waits _ _ _ _ _ _ on_time done) =
    absurd (omega (arith, pos_le due at (rw (← is_due, ← is_now) on_time)))
