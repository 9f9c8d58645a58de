-- A dispatch leaves a client that a host can dispatch again, and dispatches end.
use Rattle.std.proofs.Common.{◌≡◌, ℕ, ◌<◌, ◌<ℤ◌, ◌≤ℤ◌, Ok, sym, subst, arith}
use Rattle.std.specs.Prelude.{Result}
use Rattle.std.proofs.lemmas.Int.{ints}
use Rattle.net_wire.specs.declared.error.Context.{Context}
use Rattle.net_wire.specs.declared.error.EmitError.{EmitError}
use Rattle.dhcp_client.specs.Client.{Client, new_client, poll_at_of}
use Rattle.dhcp_client.specs.Config.{AreSettingsWritable, ClientSettings}
use Rattle.dhcp_client.specs.Ending.{HasTimeouts, IsOrdered, calls_left, last_instant}
use Rattle.dhcp_client.specs.Messages.{Outgoing}
use Rattle.dhcp_client.specs.Plan.{Dispatched, plan_for}
use Rattle.dhcp_client.proofs.EndingLemmas.{dispatched, ends, left, stays}
use Rattle.host_model.specs.Settings.{Settings}
use Rattle.net_host.specs.Config.{CanRun}
use Rattle.net_host.specs.Polling.{IsReady}

-- what the client was told stays
pub ready_with : (old new : Client) (ip_mtu : ℕ) → new.settings ≡ old.settings → IsOrdered new.state
    → IsReady old ip_mtu → IsReady new ip_mtu
ready_with old new ip_mtu told ordered ready =
    let T : ClientSettings → Type 0 = λ s. HasTimeouts s.retry in
    let W : ClientSettings → Type 0 = λ s. AreSettingsWritable s ip_mtu in
    record {
      ordered = ordered;
      timeouts = subst T (sym told) ready.timeouts;
      writable = subst W (sym told) ready.writable;
    }

-- whatever the dispatch answers
pub dispatch_ready : {E : Type 0} (took refused : E → E → Outgoing → Type 0) (cx : Context) (word ip_mtu : ℕ)
    (result : Result (Unit {0}) EmitError) (old new : Client) (out later : E)
    → cx.now <ℤ last_instant → IsReady old ip_mtu → new.settings ≡ old.settings
    → Dispatched took refused (plan_for old cx word) result old new out later
    → IsReady new ip_mtu
dispatch_ready took refused cx word ip_mtu result old new out later room ready told done =
    let soon : cx.now ≤ℤ last_instant = omega (arith, ints) in
    ready_with old new ip_mtu told
    (dispatched took refused (plan_for old cx word) result old new out later
    (stays old.state old.settings old.transaction_id cx word soon ready.ordered) done ready.ordered) ready

-- one that is not refused leaves fewer
pub dispatch_fewer : {E : Type 0} (took refused : E → E → Outgoing → Type 0) (cx : Context) (word ip_mtu : ℕ)
    (old new : Client) (out later : E)
    → cx.now <ℤ last_instant → IsReady old ip_mtu → poll_at_of old.state ≤ℤ cx.now
    → Dispatched took refused (plan_for old cx word) (Ok tt) old new out later
    → calls_left cx.now new.state < calls_left cx.now old.state
dispatch_fewer took refused cx word ip_mtu old new out later room ready due done =
    left took refused cx.now (plan_for old cx word) old new out later
    (ends old.state old.settings old.transaction_id cx word ready.timeouts room ready.ordered due) done

-- a client that was told what a host can run by
pub new_ready : (settings : Settings) (client : Client) (ip_mtu : ℕ) → client ≡ new_client settings.client → ip_mtu ≡ settings.ip_mtu
    → CanRun settings → IsReady client ip_mtu
new_ready settings client ip_mtu new is_mtu can =
    let fair = can.retry in
    let R : Client → Type 0 = λ c. IsReady c ip_mtu in
    let M : ℕ → Type 0 = λ mtu. IsReady (new_client settings.client) mtu in
    subst R (sym new) (subst M (sym is_mtu) (record {
      ordered = tt;
      timeouts = record {
        discover = omega (arith, fair.discover.low);
        request = omega (arith, fair.request.low);
        least = omega (arith, fair.least.low);
        greatest = omega (arith, fair.greatest);
      };
      writable = can.writable;
    }))
