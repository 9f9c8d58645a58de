-- What the client plans without a lease, and with an offer.
use Rattle.std.proofs.Common.{ℕ, ◌<◌, ◌≤◌, inl, inr, ⊎_elim, List, length}
use Rattle.std.proofs.Common.{refl, add-one, arith}
use Rattle.std.proofs.lemmas.Bool.{cases_lt, lt-ltb, le-ltb, lt-leb, le-leb, and_from, and_left, and_right}
use Rattle.std.specs.Prelude.{nat_le}
use Rattle.net_wire.specs.declared.address.Ipv4Address.{Ipv4Address}
use Rattle.net_wire.specs.declared.error.Context.{Context}
use Rattle.dhcp_client.specs.declared.state.ServerInfo.{ServerInfo}
use Rattle.dhcp_client.specs.Times.{request_span}
use Rattle.dhcp_client.proofs.SpanLemmas.{request_some}
use Rattle.host_model.specs.declared.words.EventWords.{EventWords}
use Rattle.host_model.specs.Script.{time_limit}
use Rattle.host_model.specs.Settings.{Settings}
use Rattle.host_model.specs.Anchor.{Loss, Offer}
use Rattle.host_model.specs.Due.{loss_due, offer_due}
use Rattle.net_host.specs.Config.{IsFair}
use Rattle.net_host.specs.Following.{state_with}
use Rattle.net_host.proofs.Contexts.{IsContextOf}
use Rattle.net_host.proofs.InstantLemmas.{after_is, request_short}
use Rattle.net_host.proofs.Planning.{Planned, plan_under}

pub loss_planned : (settings : Settings) (sent : List ℕ) (at : ℕ) (words : EventWords) (place id : ℕ)
    (cx : Context) → IsFair settings.client.retry → IsContextOf settings at cx → at < time_limit
    → Planned settings sent at id words (Loss place) (plan_under settings sent id words (Loss place) cx)
loss_planned settings sent at words place id cx fair is_cx in_range =
    let retry = settings.client.retry in
    let due = loss_due retry sent in
    ⊎_elim
    (λ (early : at < due). inr (inr (record {
      going = refl;
      early = early;
      plan_is = rw (is_cx.now, lt-leb due at early) refl;
    })))
    (λ (late : due ≤ at). inr (inl (record {
      going = refl;
      due = late;
      middle = state_with retry sent (Loss place);
      plan_is = rw (
        is_cx.now,
        is_cx.hardware,
        is_cx.ip_mtu,
        le-leb due at late,
        after_is at retry.discover_timeout (omega (arith, fair.discover.high)),
      ) refl;
      refused = inl refl;
      moves = omega (arith, fair.discover.low);
    })))
    (cases_lt at due)

pub offer_planned : (settings : Settings) (sent : List ℕ) (at : ℕ) (words : EventWords) (place since : ℕ)
    (server : ServerInfo) (address : Ipv4Address) (id : ℕ) (cx : Context)
    → IsFair settings.client.retry → IsContextOf settings at cx → at < time_limit
    → Planned settings sent at id words (Offer place since server address)
    (plan_under settings sent id words (Offer place since server address) cx)
offer_planned settings sent at words place since server address id cx fair is_cx in_range =
    let retry = settings.client.retry in
    let count = length sent in
    let due = offer_due retry since sent in
    let initial = retry.initial_request_timeout in
    let all_sent = nat_le retry.request_retries count in
    ⊎_elim
    (λ (early : at < due). inr (inr (record {
      going = and_right all_sent (nat_le due at) (lt-leb due at early);
      early = early;
      plan_is = rw (is_cx.now, lt-ltb at due early) refl;
    })))
    (λ (late : due ≤ at). ⊎_elim
    (λ (more : count < retry.request_retries).
    let short = request_short initial count fair.request.high (omega (arith, fair.retries.high)) in
    let some = request_some initial count (omega (arith, fair.request.low)) in
    inr (inl (record {
      going = and_left all_sent (nat_le due at) (lt-leb retry.request_retries count more);
      due = late;
      middle = state_with retry sent (Offer place since server address);
      plan_is = rw (
        is_cx.now,
        is_cx.hardware,
        is_cx.ip_mtu,
        le-ltb at due late,
        lt-leb retry.request_retries count more,
        add-one count,
        after_is at (request_span initial count) (omega (arith, short)),
      ) refl;
      refused = inl refl;
      moves = omega (arith, some);
    })))
    (λ (last : retry.request_retries ≤ count).
    let over = le-leb retry.request_retries count last in
    inl (record {
      over = and_from all_sent (nat_le due at) over (le-leb due at late);
      plan_is = rw (is_cx.now, le-ltb at due late, over) refl;
    }))
    (cases_lt count retry.request_retries))
    (cases_lt at due)
