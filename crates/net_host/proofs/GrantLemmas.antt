-- A client that hears an offer or an acknowledgement goes by it.
use Rattle.std.proofs.Common.{◌≡◌, ℕ, ◌+◌, ◌-◌, ◌^◌, ◌<◌, Bool, true, false, cond, ◌||◌, not, List, [], Option, Some, pos, length, ap, sym, ◌∙◌, refl, arith}
use Rattle.std.proofs.lemmas.Bool.{true≢false, not-false, or_parts, le-ltb}
use Rattle.std.specs.Option.{is_some}
use Rattle.net_wire.specs.declared.address.IpAddress.{IpAddress}
use Rattle.net_wire.specs.declared.address.Ipv4Address.{Ipv4Address}
use Rattle.net_wire.specs.Time.{instant_after}
use Rattle.dhcp_client.specs.declared.retry.RetryConfig.{RetryConfig}
use Rattle.dhcp_client.specs.declared.state.ClientState.TheVariants.{Renewing}
use Rattle.dhcp_client.specs.declared.state.Lease.{Lease}
use Rattle.dhcp_client.specs.declared.state.ServerInfo.{ServerInfo}
use Rattle.dhcp_client.specs.Client.{Client}
use Rattle.dhcp_client.specs.Heard.{Granted, AnOffer, AnAck, lease_with as heard_lease}
use Rattle.dhcp_client.specs.Hearing.{after_offer, after_ack, is_same_config, with_lease}
use Rattle.host_model.specs.declared.held.Held.{Held}
use Rattle.host_model.specs.Script.{time_limit}
use Rattle.host_model.specs.Settings.{Settings}
use Rattle.host_model.specs.History.{Entry, times_since}
use Rattle.host_model.specs.Anchor.{Anchor, Loss, Offer, Ack, anchor_after_heard, lease_times}
use Rattle.host_model.specs.Lease.{held_of}
use Rattle.host_model.specs.Queries.{first_servers}
use Rattle.net_host.specs.Following.{AgreesUnder, IsGrantSound, lease_with, state_under, Holding}
use Rattle.net_host.proofs.ConfigLemmas.{held_is, servers_are}
use Rattle.net_host.proofs.LossLemmas.{set_here}

-- an offer is requested at once
pub offered : (settings : Settings) (before : List Entry) (at : ℕ) (anchor : Anchor) (held : Holding)
    (client : Client) (server : ServerInfo) (address : Ipv4Address) → at < time_limit
    → AgreesUnder settings before anchor held client
    → AgreesUnder settings before (anchor_after_heard (length before) at (AnOffer server address) anchor) held
    (after_offer (state_under settings before anchor) server address (pos at) client)
offered settings before at (Loss place) held client server address in_range agrees = record {
  id = agrees.id;
  state = set_here settings before (Offer (length before) at server address) refl;
  told = agrees.told;
  placed = omega arith;
  sound = in_range;
  names = agrees.names;
  held_is = agrees.held_is;
}
offered settings before at (Offer place since old asked) held client server address in_range agrees = agrees
offered settings before at (Ack place since granted old) held client server address in_range agrees = agrees

-- a span of less than 2^32 seconds after an event is not cut short
span_after : (at span : ℕ) → at < time_limit → span < time_limit
    → instant_after (pos at) span ≡ pos (at + span)
span_after at span in_range short =
    ap (λ b. cond b (pos (2 ^ 63 - 1)) (pos (at + span))) (le-ltb (2 ^ 63 - 1) (at + span) (omega arith))

lease_here : (retry : RetryConfig) (at : ℕ) (granted : Granted) (server : ServerInfo)
    → IsGrantSound at granted
    → heard_lease (pos at) server granted ≡ lease_with retry (lease_times at granted) [] granted server
lease_here retry at granted server sound =
    let rebind_short : granted.times.rebind < time_limit =
    omega (arith, sound.ordered.rebinding, sound.short) in
    let renew_short : granted.times.renew < time_limit = omega (arith, sound.ordered.renewal, rebind_short) in
    rw (
      span_after at granted.times.renew sound.in_range renew_short,
      span_after at granted.times.rebind sound.in_range rebind_short,
      span_after at granted.times.end sound.in_range sound.short,
    ) refl

-- what is held of a lease that was granted
abbrev holding_of : Option Held → List IpAddress → Holding
holding_of held servers = record { held = held; servers = servers }

abbrev holding_with : Granted → Holding
holding_with granted = holding_of (Some (held_of granted)) (first_servers granted.dns_servers)

-- a client with the lease that is granted here
leased : (settings : Settings) (before : List Entry) (at : ℕ) (anchor : Anchor) (held : Holding)
    (client : Client) (server : ServerInfo) (granted : Granted) (changed : Bool) → IsGrantSound at granted
    → AgreesUnder settings before anchor held client → (changed ≡ false → held ≡ holding_with granted)
    → AgreesUnder settings before (Ack (length before) at granted server) held
    (with_lease client server granted (pos at) changed)
leased settings before at anchor held client server granted changed sound agrees is = record {
  id = agrees.id;
  state = ap (λ (l : Lease). Renewing l) (lease_here settings.client.retry at granted server sound)
      ∙ set_here settings before (Ack (length before) at granted server) refl;
  told = agrees.told;
  placed = omega arith;
  sound = sound;
  names = refl;
  held_is = is;
}

-- the lease of a client under an anchor
abbrev lease_under : Settings → List Entry → ℕ → ℕ → Granted → ServerInfo → Lease
lease_under settings before place since granted server =
    lease_with settings.client.retry (lease_times since granted) (times_since place before) granted server

-- a renewed lease for which no change waits gives what is held
same_held : (settings : Settings) (before : List Entry) (place since : ℕ) (old granted : Granted)
    (server : ServerInfo) (held : Holding) (client : Client)
    → (client.changed ≡ false → held ≡ holding_with old) → first_servers client.dns_servers ≡ first_servers old.dns_servers
    → (client.changed
    || not (is_same_config (lease_under settings before place since old server) client.dns_servers granted)
    || is_some client.packet)
    ≡ false
    → held ≡ holding_with granted
same_held settings before place since old granted server held client is names none =
    let lease : Lease = lease_under settings before place since old server in
    let same = is_same_config lease client.dns_servers granted in
    let unkept = or_parts (client.changed || not same) (is_some client.packet) none in
    let parts = or_parts client.changed (not same) unkept.0 in
    let alike = not-false same parts.1 in
    is parts.0
    ∙ ap (λ (h : Held). holding_of (Some h) (first_servers old.dns_servers)) (held_is lease client.dns_servers granted alike)
    ∙ ap (λ servers. holding_of (Some (held_of granted)) servers)
    (sym names ∙ ap first_servers (servers_are lease client.dns_servers granted alike))

pub acknowledged : (settings : Settings) (before : List Entry) (at : ℕ) (anchor : Anchor) (held : Holding)
    (client : Client) (granted : Granted) → IsGrantSound at granted
    → AgreesUnder settings before anchor held client
    → AgreesUnder settings before (anchor_after_heard (length before) at (AnAck granted) anchor) held
    (after_ack (state_under settings before anchor) granted (pos at) client)
acknowledged settings before at (Loss place) held client granted sound agrees = agrees
acknowledged settings before at (Offer place since server address) held client granted sound agrees =
    leased settings before at (Offer place since server address) held client server granted true sound agrees
    (λ none. absurd (true≢false none))
acknowledged settings before at (Ack place since old server) held client granted sound agrees =
    leased settings before at (Ack place since old server) held client server granted _ sound agrees
    (λ none. same_held settings before place since old granted server held client agrees.held_is agrees.names none)
