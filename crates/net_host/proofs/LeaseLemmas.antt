-- What the client plans with a lease.
use Rattle.std.proofs.Common.{ℕ, ◌+◌, ◌-◌, ◌^◌, ◌<◌, ◌≤◌, inl, inr, ⊎_elim, List}
use Rattle.std.proofs.Common.{pos, refl, arith}
use Rattle.std.proofs.lemmas.Bool.{cases_lt, lt-ltb, le-ltb, lt-leb, le-leb}
use Rattle.net_wire.specs.declared.error.Context.{Context}
use Rattle.dhcp_client.specs.declared.state.ClientState.TheVariants.{Renewing}
use Rattle.dhcp_client.specs.declared.state.ServerInfo.{ServerInfo}
use Rattle.dhcp_client.specs.Heard.{Granted}
use Rattle.dhcp_client.specs.Plan.{rebinding_at}
use Rattle.dhcp_client.specs.Times.{renew_span, rebind_span}
use Rattle.dhcp_client.proofs.SpanLemmas.{renew_some, rebind_some}
use Rattle.host_model.specs.declared.words.EventWords.{EventWords}
use Rattle.host_model.specs.Script.{time_limit}
use Rattle.host_model.specs.Settings.{Settings}
use Rattle.host_model.specs.Anchor.{Ack, lease_times}
use Rattle.host_model.specs.Due.{lease_due}
use Rattle.net_host.specs.Config.{IsFair}
use Rattle.net_host.specs.Following.{state_with, lease_with, IsGrantSound, rebind_due}
use Rattle.net_host.proofs.Contexts.{IsContextOf}
use Rattle.net_host.proofs.InstantLemmas.{after_is, between_is, renew_short, rebind_short}
use Rattle.net_host.proofs.Planning.{Planned, PlansMessage, plan_under}
use Rattle.net_host.proofs.RenewalLemmas.{waits_is, none_asked, all_asked}

-- a message is due, and the lease has not ended
record IsDue (settings : Settings) (sent : List ℕ) (at since : ℕ) (granted : Granted) : Type 0 where
  in_range : at < time_limit
  sound : IsGrantSound since granted
  going : at < (lease_times since granted).end
  late : lease_due settings.client.retry (lease_times since granted) sent ≤ at

-- before T2 to the server
server_planned : (settings : Settings) (sent : List ℕ) (at : ℕ) (words : EventWords) (place since : ℕ)
    (granted : Granted) (server : ServerInfo) (id : ℕ) (cx : Context)
    → IsFair settings.client.retry → IsContextOf settings at cx → IsDue settings sent at since granted
    → at < (lease_times since granted).rebind
    → PlansMessage settings sent at id words (Ack place since granted server)
    (plan_under settings sent id words (Ack place since granted server) cx)
server_planned settings sent at words place since granted server id cx fair is_cx is_due before =
    let retry = settings.client.retry in
    let times = lease_times since granted in
    let least = retry.min_renew_timeout in
    let greatest = retry.max_renew_timeout in
    let left = times.rebind - at in
    let ordered : times.renew ≤ times.rebind = omega (arith, is_due.sound.ordered.renewal) in
    let not_all = none_asked retry times sent at is_due.late before in
    let soon : at ≤ times.rebind = omega arith in
    let short : times.rebind < 2 ^ 63 =
    omega (arith, is_due.sound.in_range, is_due.sound.short, is_due.sound.ordered.rebinding) in
    let fits : at + renew_span least greatest left < 2 ^ 63 =
    omega (arith, renew_short least greatest left) in
    let some = renew_some least greatest left (omega (arith, fair.least.low)) (omega (arith, fair.greatest))
    (omega arith) in
    record {
      going = lt-leb times.end at is_due.going;
      due = is_due.late;
      middle = state_with retry sent (Ack place since granted server);
      plan_is = rw (
        is_cx.now,
        is_cx.hardware,
        is_cx.ip_mtu,
        lt-leb times.end at is_due.going,
        waits_is retry times sent at ordered,
        le-ltb at (lease_due retry times sent) is_due.late,
        not_all.0,
        not_all.1,
        lt-ltb at times.rebind before,
        lt-leb times.rebind at before,
        between_is times.rebind at soon,
        after_is at (renew_span least greatest left) fits,
      ) refl;
      refused = inr refl;
      moves = rw (lt-ltb at times.rebind before) (omega (arith, some, is_due.going));
    }

-- from T2 on to all servers
all_planned : (settings : Settings) (sent : List ℕ) (at : ℕ) (words : EventWords) (place since : ℕ)
    (granted : Granted) (server : ServerInfo) (id : ℕ) (cx : Context)
    → IsFair settings.client.retry → IsContextOf settings at cx → IsDue settings sent at since granted
    → (lease_times since granted).rebind ≤ at
    → PlansMessage settings sent at id words (Ack place since granted server)
    (plan_under settings sent id words (Ack place since granted server) cx)
all_planned settings sent at words place since granted server id cx fair is_cx is_due from =
    let retry = settings.client.retry in
    let times = lease_times since granted in
    let least = retry.min_renew_timeout in
    let greatest = retry.max_renew_timeout in
    let left = times.end - at in
    let lease = lease_with retry times sent granted server in
    let ordered : times.renew ≤ times.rebind = omega (arith, is_due.sound.ordered.renewal) in
    let soon : at ≤ times.end = omega (arith, is_due.going) in
    let short : times.end < 2 ^ 62 = omega (arith, is_due.sound.in_range, is_due.sound.short) in
    let fits : at + rebind_span least greatest left < 2 ^ 63 =
    omega (arith, rebind_short least greatest left, fair.least.high) in
    let some = rebind_some least greatest left (omega (arith, fair.least.low))
    (omega (arith, fair.greatest)) in
    record {
      going = lt-leb times.end at is_due.going;
      due = is_due.late;
      middle = Renewing (rebinding_at lease (pos (rebind_due retry times sent)));
      plan_is = rw (
        is_cx.now,
        is_cx.hardware,
        is_cx.ip_mtu,
        lt-leb times.end at is_due.going,
        waits_is retry times sent at ordered,
        le-ltb at (lease_due retry times sent) is_due.late,
        all_asked retry times sent at from,
        le-ltb at times.rebind from,
        le-leb times.rebind at from,
        between_is times.end at soon,
        after_is at (rebind_span least greatest left) fits,
      ) refl;
      refused = inl (rw (le-ltb at times.rebind from) refl);
      moves = rw (le-ltb at times.rebind from) (omega (arith, some, is_due.going));
    }

pub lease_planned : (settings : Settings) (sent : List ℕ) (at : ℕ) (words : EventWords) (place since : ℕ)
    (granted : Granted) (server : ServerInfo) (id : ℕ) (cx : Context)
    → IsFair settings.client.retry → IsContextOf settings at cx → at < time_limit
    → IsGrantSound since granted
    → Planned settings sent at id words (Ack place since granted server)
    (plan_under settings sent id words (Ack place since granted server) cx)
lease_planned settings sent at words place since granted server id cx fair is_cx in_range sound =
    let retry = settings.client.retry in
    let times = lease_times since granted in
    let due = lease_due retry times sent in
    let ordered : times.renew ≤ times.rebind = omega (arith, sound.ordered.renewal) in
    let waits = waits_is retry times sent at ordered in
    ⊎_elim
    (λ (going : at < times.end). ⊎_elim
    (λ (early : at < due). inr (inr (record {
      going = lt-leb times.end at going;
      early = early;
      plan_is = rw (is_cx.now, lt-leb times.end at going, waits, lt-ltb at due early) refl;
    })))
    (λ (late : due ≤ at).
    let is_due : IsDue settings sent at since granted =
    record { in_range = in_range; sound = sound; going = going; late = late } in
    inr (inl (⊎_elim
    (server_planned settings sent at words place since granted server id cx fair is_cx is_due)
    (all_planned settings sent at words place since granted server id cx fair is_cx is_due)
    (cases_lt at times.rebind))))
    (cases_lt at due))
    (λ (ended : times.end ≤ at). inl (record {
      over = le-leb times.end at ended;
      plan_is = rw (is_cx.now, le-leb times.end at ended) refl;
    }))
    (cases_lt at times.end)
