-- When a client is polled that goes by an anchor.
use Rattle.std.proofs.Common.{◌≡◌, ℕ, ◌<◌, ◌≤◌, List, Bool, true, false, length, cond, pos, refl}
use Rattle.std.proofs.Common.{arith, min}
use Rattle.std.specs.Int.{int_min}
use Rattle.std.specs.Prelude.{nat_le}
use Rattle.std.proofs.lemmas.Bool.{lt-leb, leb-false, and_right}
use Rattle.std.proofs.lemmas.Int.{ints, clamps}
use Rattle.dhcp_client.specs.declared.retry.RetryConfig.{RetryConfig}
use Rattle.dhcp_client.specs.Client.{poll_at_of}
use Rattle.host_model.specs.Anchor.{Anchor, Loss, Offer, Ack, due_under, is_over, lease_times}
use Rattle.host_model.specs.Due.{loss_due, offer_due, lease_due}
use Rattle.net_host.specs.Following.{state_with, IsSoundUnder, renew_due, rebind_due, is_rebinding}
use Rattle.net_host.proofs.RenewalLemmas.{first_is}

-- at its due, and with a lease at the end of that at the latest
abbrev pub polled_under : RetryConfig → List ℕ → Anchor → ℕ
polled_under retry sent (Loss place) = loss_due retry sent
polled_under retry sent (Offer place since server address) = offer_due retry since sent
polled_under retry sent (Ack place since granted server) =
    min (lease_due retry (lease_times since granted) sent) (lease_times since granted).end

at_most : (rebinding : Bool) (renew_at rebind_at end : ℕ)
    → int_min (cond rebinding (pos rebind_at) (int_min (pos renew_at) (pos rebind_at))) (pos end)
    ≡ pos (min (cond rebinding rebind_at (min renew_at rebind_at)) end)
at_most true renew_at rebind_at end = omega (arith, ints, clamps)
at_most false renew_at rebind_at end = omega (arith, ints, clamps)

pub poll_at_is : (retry : RetryConfig) (sent : List ℕ) (anchor : Anchor) → IsSoundUnder anchor
    → poll_at_of (state_with retry sent anchor) ≡ pos (polled_under retry sent anchor)
poll_at_is retry sent (Loss place) sound = refl
poll_at_is retry sent (Offer place since server address) sound = refl
poll_at_is retry sent (Ack place since granted server) sound =
    let times = lease_times since granted in
    let ordered : times.renew ≤ times.rebind = omega (arith, sound.ordered.renewal) in
    rw (
      at_most (is_rebinding times sent) (renew_due retry times sent) (rebind_due retry times sent) times.end,
      first_is retry times sent ordered,
    ) refl

-- before that moment nothing ends and no message is due
pub early_is : (retry : RetryConfig) (sent : List ℕ) (at : ℕ) (anchor : Anchor)
    → at < polled_under retry sent anchor
    → (is_over retry sent at anchor ≡ false) × (at < due_under retry sent anchor)
early_is retry sent at (Loss place) early = (refl, early)
early_is retry sent at (Offer place since server address) early =
    let due = offer_due retry since sent in (
      and_right (nat_le retry.request_retries (length sent)) (nat_le due at) (lt-leb due at early),
      early,
    )
early_is retry sent at (Ack place since granted server) early =
    (lt-leb (lease_times since granted).end at (omega arith), omega arith)

-- from then on a message is due where nothing ends
pub late_is : (retry : RetryConfig) (sent : List ℕ) (at : ℕ) (anchor : Anchor)
    → polled_under retry sent anchor ≤ at → is_over retry sent at anchor ≡ false
    → due_under retry sent anchor ≤ at
late_is retry sent at (Loss place) late going = late
late_is retry sent at (Offer place since server address) late going = late
late_is retry sent at (Ack place since granted server) late going =
    let times = lease_times since granted in
    let ends : at < times.end = leb-false times.end at going in
    omega arith
