-- Before its due a client waits.
use Rattle.std.proofs.Common.{◌≡◌, ℕ, ℤ, ◌<ℤ◌, Bool, true, false, cond, ◌&&◌, ◌||◌, refl, rules, tests, arith}
use Rattle.std.proofs.Math.Bool.{or-true}
use Rattle.std.proofs.lemmas.Int.{ints, int_min_is}
use Rattle.std.specs.Prelude.{int_le, int_lt}
use Rattle.std.specs.Int.{int_min}
use Rattle.net_wire.specs.declared.error.Context.{Context}
use Rattle.dhcp_client.specs.declared.state.ClientState.{ClientState}
use Rattle.dhcp_client.specs.declared.state.ClientState.TheVariants.{Discovering, Requesting, Renewing}
use Rattle.dhcp_client.specs.Client.{poll_at_of}
use Rattle.dhcp_client.specs.Config.{ClientSettings}
use Rattle.dhcp_client.specs.Plan.{Plan, Wait, Restart, plan_in}

-- below both of two moments
below_both : (a x y : ℤ) → a <ℤ int_min x y → (a <ℤ x) × (a <ℤ y)
below_both a x y below = (grind (arith, ints, int_min_is), grind (arith, ints, int_min_is))

lease_waits : (rebinding : Bool) (now renew_at rebind_at expires_at : ℤ) (other : Plan)
    → now <ℤ int_min (cond rebinding rebind_at (int_min renew_at rebind_at)) expires_at
    → cond (int_le expires_at now) Restart (cond (int_lt now renew_at || (rebinding && int_lt now rebind_at)) Wait other) ≡ Wait
lease_waits true now renew_at rebind_at expires_at other early =
    let both = below_both now rebind_at expires_at early in
    let goes_on : int_le expires_at now ≡ false = search (rules, tests, both.1) in
    let waits : int_lt now rebind_at ≡ true = search (rules, tests, both.0) in
    rw (goes_on, waits, or-true) refl
lease_waits false now renew_at rebind_at expires_at other early =
    let both = below_both now (int_min renew_at rebind_at) expires_at early in
    let renews = below_both now renew_at rebind_at both.0 in
    let goes_on : int_le expires_at now ≡ false = search (rules, tests, both.1) in
    let waits : int_lt now renew_at ≡ true = search (rules, tests, renews.0) in
    rw (goes_on, waits) refl

pub waits_in : (state : ClientState) (settings : ClientSettings) (id : ℕ) (cx : Context) (word : ℕ) → cx.now <ℤ poll_at_of state
    → plan_in state settings id cx word ≡ Wait
waits_in (Discovering retry_at) settings id cx word early = search (rules, tests)
waits_in (Requesting retry_at retry server requested) settings id cx word early = search (rules, tests)
waits_in (Renewing lease) settings id cx word early =
    lease_waits lease.rebinding cx.now lease.renew_at lease.rebind_at lease.expires_at _ early
