-- The leased address is that of the last accepted acknowledgement, while its lease runs (RFC 2131, sections
-- 3.1, 4.4.1 and 4.4.5).
use Rattle.std.specs.Prelude.{◌≡◌, ℕ, ◌+◌, ◌<◌, ◌⊎◌, ◌↔◌, List, ◌∷◌, ◌++◌, Some}
use Rattle.std.specs.List.{AllByRecursion}
use Rattle.net_wire.specs.declared.address.Ipv4Cidr.{Ipv4Cidr}
use Rattle.dhcp_client.specs.Heard.{Granted, AnAck, ARefusal}
use Rattle.host_model.specs.Script.{Reset}
use Rattle.host_model.specs.Settings.{Settings}
use Rattle.host_model.specs.History.{Entry}
use Rattle.host_model.specs.Anchor.{Loss, anchor_before}
use Rattle.host_model.specs.Lease.{leased_under}
use Rattle.host_model.specs.Roots.{Brought}

-- An event takes a lease back: a reset; a refusal, after which the client begins anew (section 3.1); or an
-- acknowledgement, which grants the next lease (section 4.4.5).
abbrev pub Revokes : Settings → Entry → List Entry → Type 0
Revokes settings entry older =
    (entry.event.arrival ≡ Reset)
    ⊎ (Brought settings entry older ARefusal
    ⊎ (granted : Granted) × Brought settings entry older (AnAck granted))

-- no newer event does, each heard by the entries older than it
abbrev pub IsUnrevoked : Settings → List Entry → List Entry → Type 0
IsUnrevoked settings newer older = (later earlier : List Entry) (entry : Entry)
    → newer ≡ later ++ entry ∷ earlier → Revokes settings entry (earlier ++ older) → ⊥

-- an event comes before a time
abbrev pub IsBefore : ℕ → Entry → Type 0
IsBefore end entry = entry.event.at < end

-- with an offer, which the client requested, or with a lease, which it renews, an acknowledgement is accepted
-- (sections 4.4.1 and 4.4.5)
abbrev pub AcceptsAcks : Settings → List Entry → Type 0
AcceptsAcks settings older = (place : ℕ) → anchor_before settings older ≡ Loss place → ⊥

-- An address is leased after entries, newest first: an event brought an acknowledgement of it, which was
-- accepted, and no newer event took the lease back. That event and all newer ones come before the end of the
-- lease, which runs from that event on (section 4.4.5).
pub record IsLeaseOf (settings : Settings) (entries : List Entry) (address : Ipv4Cidr) : Type 0 where
  pub newer : List Entry
  pub entry : Entry
  pub older : List Entry
  pub split : entries ≡ newer ++ entry ∷ older
  pub granted : Granted
  pub address_is : granted.address ≡ address
  pub heard : Brought settings entry older (AnAck granted)
  pub accepted : AcceptsAcks settings older
  pub unrevoked : IsUnrevoked settings newer (entry ∷ older)
  pub running : AllByRecursion (IsBefore (entry.event.at + granted.times.end)) (entry ∷ newer)

-- after every event the leased address is that of such an acknowledgement; without one there is none
abbrev pub LeasesAreLastAcknowledgements : Type 0
LeasesAreLastAcknowledgements =
    (settings : Settings) (entries : List Entry) (address : Ipv4Cidr)
    → (leased_under (anchor_before settings entries) ≡ Some address) ↔ IsLeaseOf settings entries address
