-- What a client plans that goes by an anchor, and when it is polled next.
use Rattle.std.proofs.Common.{◌≡◌, ℕ, ◌<◌, ⊎_elim, List, None, pos, ap, sym, subst, ◌∙◌}
use Rattle.net_wire.specs.declared.error.Context.{Context}
use Rattle.dhcp_client.specs.Client.{Client, poll_at_of}
use Rattle.dhcp_client.specs.Config.{ClientSettings}
use Rattle.dhcp_client.specs.declared.state.ClientState.{ClientState}
use Rattle.dhcp_client.specs.Messages.{limited_broadcast}
use Rattle.dhcp_client.specs.Plan.{Plan, plan_for, plan_in}
use Rattle.host_model.specs.declared.words.EventWords.{EventWords}
use Rattle.host_model.specs.Script.{time_limit}
use Rattle.host_model.specs.Settings.{Settings}
use Rattle.host_model.specs.History.{Entry, last_id, times_since}
use Rattle.host_model.specs.Anchor.{Anchor, place_of}
use Rattle.host_model.specs.Named.{message_under}
use Rattle.net_host.specs.declared.emitter.Emitter.{Emitter}
use Rattle.net_host.specs.Config.{IsFair}
use Rattle.net_host.specs.Emitter.{hop_by}
use Rattle.net_host.specs.Following.{AgreesUnder, state_under, Holding}
use Rattle.net_host.proofs.Contexts.{IsContextOf}
use Rattle.net_host.proofs.PlannedLemmas.{Planned, PlansMessage, planned, polled_under, poll_at_is}

-- what a client plans that goes by an anchor
plan_is : (settings : Settings) (before : List Entry) (anchor : Anchor) (held : Holding) (client : Client) (cx : Context) (word : ℕ)
    → AgreesUnder settings before anchor held client
    → plan_for client cx word ≡ plan_in (state_under settings before anchor) settings.client (last_id before) cx word
plan_is settings before anchor held client cx word agrees =
    ap (λ (s : ClientState). plan_in s client.settings client.transaction_id cx word) agrees.state
    ∙ ap (λ (t : ClientSettings). plan_in (state_under settings before anchor) t client.transaction_id cx word) agrees.told
    ∙ ap (λ id. plan_in (state_under settings before anchor) settings.client id cx word) agrees.id

pub plans : (settings : Settings) (before : List Entry) (at : ℕ) (words : EventWords) (anchor : Anchor) (held : Holding) (client : Client) (cx : Context)
    → IsFair settings.client.retry → IsContextOf settings at cx → at < time_limit → AgreesUnder settings before anchor held client
    → Planned settings (times_since (place_of anchor) before) at (last_id before) words anchor (plan_for client cx words.first)
plans settings before at words anchor held client cx fair is_cx in_range agrees =
    let P : Plan → Type 0 = λ p. Planned settings (times_since (place_of anchor) before) at (last_id before) words anchor p in
    subst P (sym (plan_is settings before anchor held client cx words.first agrees))
    (planned settings (times_since (place_of anchor) before) at words anchor (last_id before) cx fair is_cx in_range agrees.sound)

-- when it is polled next
pub poll_is : (settings : Settings) (before : List Entry) (anchor : Anchor) (held : Holding) (client : Client)
    → AgreesUnder settings before anchor held client
    → poll_at_of client.state ≡ pos (polled_under settings.client.retry (times_since (place_of anchor) before) anchor)
poll_is settings before anchor held client agrees =
    ap poll_at_of agrees.state ∙ poll_at_is settings.client.retry (times_since (place_of anchor) before) anchor agrees.sound

-- a refused message leaves the state: only one before T2 can be refused
pub kept : (settings : Settings) (before : List Entry) (at : ℕ) (words : EventWords) (anchor : Anchor) (plan : Plan) (client : Client) (out : Emitter)
    (message : PlansMessage settings (times_since (place_of anchor) before) at (last_id before) words anchor plan)
    → hop_by out (message_under settings (last_id before) at words anchor).destination ≡ None
    → message.middle ≡ state_under settings before anchor
kept settings before at words anchor plan client out message unknown =
    ⊎_elim
    (λ (broadcast : (message_under settings (last_id before) at words anchor).destination ≡ limited_broadcast).
    let known = ap (hop_by out) broadcast in absurd (cc (known, unknown)))
    (λ (same : message.middle ≡ state_under settings before anchor). same)
    message.refused
