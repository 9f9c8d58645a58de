-- Without an offer and a lease the client goes by the start or by the event that lost them, until an offer
-- comes (RFC 2131, sections 3.1 and 4.4.1).
use Rattle.std.specs.Prelude.{◌≡◌, ℕ, ◌⊎◌, ◌↔◌, List, [], ◌∷◌, ◌++◌, length}
use Rattle.net_wire.specs.declared.address.Ipv4Address.{Ipv4Address}
use Rattle.dhcp_client.specs.declared.state.ServerInfo.{ServerInfo}
use Rattle.dhcp_client.specs.Heard.{AnOffer, ARefusal}
use Rattle.host_model.specs.Script.{Reset}
use Rattle.host_model.specs.Settings.{Settings}
use Rattle.host_model.specs.History.{Entry}
use Rattle.host_model.specs.Anchor.{Loss, anchor_before}
use Rattle.host_model.specs.LastLease.{AcceptsAcks}
use Rattle.host_model.specs.Roots.{Brought, IsEnded}

-- An event loses what there was: a reset; a refusal, with an offer or a lease; or the end of either, also of
-- what the event itself brought.
abbrev pub Loses : Settings → Entry → List Entry → Type 0
Loses settings entry older =
    (entry.event.arrival ≡ Reset)
    ⊎ ((Brought settings entry older ARefusal × AcceptsAcks settings older)
    ⊎ IsEnded settings entry older)

-- by the event at a place; or at the start, which counts as place 0
abbrev pub IsLostBy : Settings → ℕ → List Entry → Type 0
IsLostBy settings place [] = place ≡ 0
IsLostBy settings place (entry ∷ older) = (length older ≡ place) × Loses settings entry older

-- an event ends the time without an offer and a lease, or begins it anew: an offer; a reset
abbrev pub EndsLoss : Settings → Entry → List Entry → Type 0
EndsLoss settings entry older =
    (entry.event.arrival ≡ Reset)
    ⊎ (server : ServerInfo) × (address : Ipv4Address) × Brought settings entry older (AnOffer server address)

-- The client goes by the start or a loss at a place after entries, newest first: none of the newer events
-- brought an offer or is a reset.
pub record IsLossOf (settings : Settings) (entries : List Entry) (place : ℕ) : Type 0 where
  pub newer : List Entry
  pub older : List Entry
  pub split : entries ≡ newer ++ older
  pub lost : IsLostBy settings place older
  pub lasting : (later earlier : List Entry) (entry : Entry) → newer ≡ later ++ entry ∷ earlier
      → EndsLoss settings entry (earlier ++ older) → ⊥

-- after every event the client goes by such a loss, where there is one
abbrev pub LossesAreLast : Type 0
LossesAreLast = (settings : Settings) (entries : List Entry) (place : ℕ)
    → (anchor_before settings entries ≡ Loss place) ↔ IsLossOf settings entries place
