-- What is held once the client was asked.
use Rattle.std.proofs.Common.{◌≡◌, ℕ, List, [], Bool, true, false, cond, Option, None, ap, ◌∙◌, refl, arith}
use Rattle.std.specs.Option.{option_map}
use Rattle.net_wire.specs.declared.address.IpAddress.{IpAddress}
use Rattle.net_wire.specs.declared.address.Ipv4Address.{Ipv4Address}
use Rattle.dhcp_client.specs.Client.{Client, new_client}
use Rattle.dhcp_client.specs.Event.{configuration_in}
use Rattle.dhcp_client.specs.declared.retry.RetryConfig.{RetryConfig}
use Rattle.dhcp_client.specs.declared.state.ClientState.{ClientState}
use Rattle.host_model.specs.declared.held.Held.{Held}
use Rattle.host_model.specs.Settings.{Settings}
use Rattle.host_model.specs.History.{Entry, times_since}
use Rattle.host_model.specs.Anchor.{Anchor, Loss, Offer, Ack, place_of}
use Rattle.host_model.specs.Lease.{held_under}
use Rattle.host_model.specs.Queries.{first_servers, servers_under}
use Rattle.net_host.specs.Following.{AgreesUnder, Holding, state_with}
use Rattle.net_host.specs.Holding.{held_in, held_after, served_in, served_after, holding_after}

-- a client that goes by an anchor has the configuration that the anchor says
configured : (retry : RetryConfig) (sent : List ℕ) (servers : List Ipv4Address) (packet : Option (List ℕ)) (anchor : Anchor)
    → option_map held_in (configuration_in (state_with retry sent anchor) servers packet) ≡ held_under anchor
configured retry sent servers packet (Loss place) = refl
configured retry sent servers packet (Offer place since server address) = refl
configured retry sent servers packet (Ack place since granted server) = refl

served : (retry : RetryConfig) (sent : List ℕ) (names : List Ipv4Address) (packet : Option (List ℕ)) (anchor : Anchor)
    → first_servers names ≡ servers_under anchor
    → served_in (configuration_in (state_with retry sent anchor) names packet) ≡ servers_under anchor
served retry sent names packet (Loss place) are = refl
served retry sent names packet (Offer place since server address) are = refl
served retry sent names packet (Ack place since granted server) are = are

by_change : {A : Type 0} (changed : Bool) (one held wanted : A) → one ≡ wanted → (changed ≡ false → held ≡ wanted)
    → cond changed one held ≡ wanted
by_change true one held wanted is_one is_held = is_one
by_change false one held wanted is_one is_held = is_held refl

pub holds : (settings : Settings) (before : List Entry) (anchor : Anchor) (holding : Holding) (client : Client)
    → AgreesUnder settings before anchor holding client → held_after client holding.held ≡ held_under anchor
holds settings before anchor holding client agrees =
    by_change client.changed _ holding.held (held_under anchor)
    (ap (λ (s : ClientState). option_map held_in (configuration_in s client.dns_servers client.packet)) agrees.state
    ∙ configured settings.client.retry (times_since (place_of anchor) before) client.dns_servers client.packet anchor)
    (λ same. ap (λ (h : Holding). h.held) (agrees.held_is same))

pub serves : (settings : Settings) (before : List Entry) (anchor : Anchor) (holding : Holding) (client : Client)
    → AgreesUnder settings before anchor holding client → served_after client holding.servers ≡ servers_under anchor
serves settings before anchor holding client agrees =
    by_change client.changed _ holding.servers (servers_under anchor)
    (ap (λ (s : ClientState). served_in (configuration_in s client.dns_servers client.packet)) agrees.state
    ∙ served settings.client.retry (times_since (place_of anchor) before) client.dns_servers client.packet anchor agrees.names)
    (λ same. ap (λ (h : Holding). h.servers) (agrees.held_is same))

abbrev holding_of : Option Held → List IpAddress → Holding
holding_of held servers = record { held = held; servers = servers }

-- and it goes by the anchor still, with no change that waits
pub told : (settings : Settings) (before : List Entry) (anchor : Anchor) (holding : Holding) (client : Client)
    → AgreesUnder settings before anchor holding client
    → AgreesUnder settings before anchor (holding_after client holding) (record client { changed = false })
told settings before anchor holding client agrees = record {
  id = agrees.id;
  state = agrees.state;
  told = agrees.told;
  placed = agrees.placed;
  sound = agrees.sound;
  names = agrees.names;
  held_is = λ none.
      ap (λ held. holding_of held (served_after client holding.servers)) (holds settings before anchor holding client agrees)
      ∙ ap (holding_of (held_under anchor)) (serves settings before anchor holding client agrees);
}

-- before the first event
pub new_agrees : (settings : Settings) (client : Client) → client ≡ new_client settings.client
    → AgreesUnder settings [] (Loss 0) (record { held = None; servers = [] }) client
new_agrees settings client new = record {
  id = ap (λ (c : Client). c.transaction_id) new;
  state = ap (λ (c : Client). c.state) new;
  told = ap (λ (c : Client). c.settings) new;
  placed = omega arith;
  sound = tt;
  names = ap (λ (c : Client). first_servers c.dns_servers) new;
  held_is = λ none. refl;
}
