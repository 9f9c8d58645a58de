-- The relation between the state of a host's DHCP client and the history of its events.
use Rattle.std.specs.Prelude.{◌≡◌, ℕ, ◌+◌, ◌-◌, ◌<◌, ◌≤◌, Bool, false, nat_le, nat_lt, List, [], ◌∷◌, length, pos, Option, ⊤, if◌then◌else◌}
use Rattle.net_wire.specs.declared.address.IpAddress.{IpAddress}
use Rattle.dhcp_client.specs.declared.retry.RetryConfig.{RetryConfig}
use Rattle.dhcp_client.specs.declared.state.ClientState.{ClientState}
use Rattle.dhcp_client.specs.declared.state.ClientState.TheVariants.{Discovering, Requesting, Renewing}
use Rattle.dhcp_client.specs.declared.state.Lease.{Lease}
use Rattle.dhcp_client.specs.declared.state.ServerInfo.{ServerInfo}
use Rattle.dhcp_client.specs.Client.{Client}
use Rattle.dhcp_client.specs.Heard.{Granted}
use Rattle.dhcp_client.specs.Times.{Spans, AreOrdered, renew_span, rebind_span}
use Rattle.host_model.specs.declared.held.Held.{Held}
use Rattle.host_model.specs.Settings.{Settings}
use Rattle.host_model.specs.History.{Entry, last_id, times_since}
use Rattle.host_model.specs.Anchor.{Anchor, Loss, Offer, Ack, lease_times, place_of}
use Rattle.host_model.specs.Due.{loss_due, offer_due}
use Rattle.host_model.specs.Lease.{held_under}
use Rattle.host_model.specs.Queries.{first_servers, servers_under}
use Rattle.host_model.specs.Script.{time_limit}

-- The client keeps two dues of a lease and a mark, each by the times of the messages since the acknowledgement,
-- newest first: when the next renewal to the server is due,
abbrev pub renew_due : RetryConfig → Spans → List ℕ → ℕ
renew_due retry times [] = times.renew
renew_due retry times (last ∷ older) =
    if nat_lt last times.rebind
    then last + renew_span retry.min_renew_timeout retry.max_renew_timeout (times.rebind - last)
    else renew_due retry times older

-- when the next one to all servers is,
abbrev pub rebind_due : RetryConfig → Spans → List ℕ → ℕ
rebind_due retry times [] = times.rebind
rebind_due retry times (last ∷ older) =
    if nat_lt last times.rebind
    then times.rebind
    else last + rebind_span retry.min_renew_timeout retry.max_renew_timeout (times.end - last)

-- and whether one went to all servers
abbrev pub is_rebinding : Spans → List ℕ → Bool
is_rebinding times [] = false
is_rebinding times (last ∷ older) = nat_le times.rebind last

abbrev pub lease_with : RetryConfig → Spans → List ℕ → Granted → ServerInfo → Lease
lease_with retry times sent granted server = record {
  server = server;
  address = granted.address;
  router = granted.router;
  renew_at = pos (renew_due retry times sent);
  rebind_at = pos (rebind_due retry times sent);
  rebinding = is_rebinding times sent;
  expires_at = pos times.end;
}

-- The state of the client, by its anchor and the times of the messages since that, newest first: it discovers
-- without a lease, requests what was offered, renews what was granted, and sends next at the due.
abbrev pub state_with : RetryConfig → List ℕ → Anchor → ClientState
state_with retry sent (Loss place) = Discovering (pos (loss_due retry sent))
state_with retry sent (Offer place since server address) =
    Requesting (pos (offer_due retry since sent)) (length sent) server address
state_with retry sent (Ack place since granted server) =
    Renewing (lease_with retry (lease_times since granted) sent granted server)

abbrev pub state_under : Settings → List Entry → Anchor → ClientState
state_under settings before anchor =
    state_with settings.client.retry (times_since (place_of anchor) before) anchor

-- what came at a time of the script, and was granted for less than 2^32 seconds, with its times in order
pub record IsGrantSound (since : ℕ) (granted : Granted) : Type 0 where
  pub in_range : since < time_limit
  pub ordered : AreOrdered granted.times
  pub short : granted.times.end < time_limit

abbrev pub IsSoundUnder : Anchor → Type 0
IsSoundUnder (Loss place) = ⊤
IsSoundUnder (Offer place since server address) = since < time_limit
IsSoundUnder (Ack place since granted server) = IsGrantSound since granted

-- what a host holds of a lease: its address and router, and the name servers that it asks
pub record Holding : Type 0 where
  pub held : Option Held
  pub servers : List IpAddress

abbrev pub holding_under : Anchor → Holding
holding_under anchor = record { held = held_under anchor; servers = servers_under anchor }

-- The client goes by an anchor within the entries so far, newest first: its id is that of the last message,
-- its state is read off the anchor and the messages since, and the rest is what was told. Where no change of its
-- configuration waits, the host holds what the anchor says.
pub record AgreesUnder (settings : Settings) (before : List Entry) (anchor : Anchor) (holding : Holding)
    (client : Client) : Type 0 where
  pub id : client.transaction_id ≡ last_id before
  pub state : client.state ≡ state_under settings before anchor
  pub told : client.settings ≡ settings.client
  pub placed : place_of anchor ≤ length before
  pub sound : IsSoundUnder anchor
  pub names : first_servers client.dns_servers ≡ servers_under anchor
  pub held_is : client.changed ≡ false → holding ≡ holding_under anchor
