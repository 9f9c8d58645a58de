-- An offer is what the client goes by from its event on, until it is answered or its requests are at an end
-- (RFC 2131, sections 3.1, 4.1 and 4.4.1).
use Rattle.std.specs.Prelude.{◌≡◌, ℕ, ◌<◌, ◌≤◌, ◌⊎◌, ◌↔◌, List, ◌∷◌, ◌++◌, length}
use Rattle.net_wire.specs.declared.address.Ipv4Address.{Ipv4Address}
use Rattle.net_wire.specs.declared.address.Ipv4Cidr.{Ipv4Cidr}
use Rattle.dhcp_client.specs.declared.state.ServerInfo.{ServerInfo}
use Rattle.dhcp_client.specs.Heard.{AnOffer}
use Rattle.host_model.specs.Settings.{Settings}
use Rattle.host_model.specs.History.{Entry, times_since}
use Rattle.host_model.specs.Due.{offer_due}
use Rattle.host_model.specs.Anchor.{Loss, Offer, anchor_before}
use Rattle.host_model.specs.LastLease.{IsUnrevoked, AcceptsAcks, IsLeaseOf}
use Rattle.host_model.specs.Roots.{Brought}

-- An offer that came at a place and a time still waits for its answer at a later event: not all requests that
-- there may be were sent, or the timeout after the last one is not over (section 4.1).
abbrev pub IsWaiting : Settings → ℕ → ℕ → Entry → List Entry → Type 0
IsWaiting settings place since entry older =
    (length (times_since place older) < settings.client.retry.request_retries)
    ⊎ (entry.event.at < offer_due settings.client.retry since (times_since place older))

-- without an offer or a lease the client takes the first offer that comes (section 4.4.1)
abbrev pub AcceptsOffers : Settings → List Entry → Type 0
AcceptsOffers settings older = (place : ℕ) × (anchor_before settings older ≡ Loss place)

-- An offer of an address by a server stands after entries, newest first: the event at its place and time
-- brought it, and it was accepted; no newer event took it back; and in each event since then it waited.
pub record IsOfferOf (settings : Settings) (entries : List Entry) (place since : ℕ) (server : ServerInfo)
    (address : Ipv4Address) : Type 0 where
  pub newer : List Entry
  pub entry : Entry
  pub older : List Entry
  pub split : entries ≡ newer ++ entry ∷ older
  pub placed : length older ≡ place
  pub time : entry.event.at ≡ since
  pub heard : Brought settings entry older (AnOffer server address)
  pub accepted : AcceptsOffers settings older
  pub unrevoked : IsUnrevoked settings newer (entry ∷ older)
  pub waiting : (later earlier : List Entry) (other : Entry) → entries ≡ later ++ other ∷ earlier
      → place ≤ length earlier → IsWaiting settings place since other earlier

-- after every event the client goes by such an offer, where there is one
abbrev pub OffersAreLast : Type 0
OffersAreLast =
    (settings : Settings) (entries : List Entry) (place since : ℕ) (server : ServerInfo)
    (address : Ipv4Address)
    → (anchor_before settings entries ≡ Offer place since server address)
    ↔ IsOfferOf settings entries place since server address

abbrev pub HasOffer : Settings → List Entry → Type 0
HasOffer settings entries = (place : ℕ) × (since : ℕ) × (server : ServerInfo) × (address : Ipv4Address)
    × IsOfferOf settings entries place since server address

abbrev pub HasLease : Settings → List Entry → Type 0
HasLease settings entries = (address : Ipv4Cidr) × IsLeaseOf settings entries address

-- an acknowledgement is accepted just where an offer stands or an address is leased, and an offer just where
-- neither is so
pub record AcceptsInTurn (settings : Settings) (entries : List Entry) : Type 0 where
  pub acks : AcceptsAcks settings entries ↔ (HasOffer settings entries ⊎ HasLease settings entries)
  pub offers : AcceptsOffers settings entries ↔ (AcceptsAcks settings entries → ⊥)

abbrev pub ClientsAcceptInTurn : Type 0
ClientsAcceptInTurn = (settings : Settings) (entries : List Entry) → AcceptsInTurn settings entries
