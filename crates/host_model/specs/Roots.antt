-- Where an anchor comes from: it says what the events at its places brought (RFC 2131, section 4.4 and
-- figure 5).
use Rattle.std.specs.Prelude.{◌≡◌, ℕ, ◌<◌, ◌⊎◌, true, List, ◌∷◌, ◌++◌, length}
use Rattle.net_wire.specs.declared.address.Ipv4Address.{Ipv4Address}
use Rattle.dhcp_client.specs.declared.state.ServerInfo.{ServerInfo}
use Rattle.dhcp_client.specs.Heard.{Heard, AnOffer, AnAck, ARefusal}
use Rattle.host_model.specs.Script.{Reset, Frame}
use Rattle.host_model.specs.Settings.{Settings}
use Rattle.host_model.specs.History.{Entry, times_since}
use Rattle.host_model.specs.Hearing.{heard_at}
use Rattle.host_model.specs.Anchor.{Anchor, Loss, Offer, Ack}
use Rattle.host_model.specs.Anchor.{anchor_after_arrival, anchor_before, is_over, place_of}

-- the entry at a place among entries, newest first, and those older than it
pub record IsAt (entries : List Entry) (place : ℕ) (entry : Entry) (older : List Entry) : Type 0 where
  pub newer : List Entry
  pub whole : entries ≡ newer ++ entry ∷ older
  pub placed : length older ≡ place

-- an event brought a frame of which this was heard, by the entries older than it
pub record Brought (settings : Settings) (entry : Entry) (older : List Entry) (heard : Heard) : Type 0 where
  pub bytes : List ℕ
  pub frame : entry.event.arrival ≡ Frame bytes
  pub hears : heard_at settings older bytes ≡ heard

-- the event at a place, at a time, brought it
pub record IsHeardAt (settings : Settings) (entries : List Entry) (place at : ℕ) (heard : Heard)
    : Type 0 where
  pub entry : Entry
  pub older : List Entry
  pub stands : IsAt entries place entry older
  pub time : entry.event.at ≡ at
  pub brought : Brought settings entry older heard

-- what the client goes by once the arrival of an event is heard
abbrev pub arrived : Settings → Entry → List Entry → Anchor
arrived settings entry older =
    anchor_after_arrival settings older entry.event.at entry.event.arrival (anchor_before settings older)

-- the time of an event ended that: the requests of an offer or a lease
abbrev pub IsEnded : Settings → Entry → List Entry → Type 0
IsEnded settings entry older =
    is_over settings.client.retry (times_since (place_of (arrived settings entry older)) older) entry.event.at
    (arrived settings entry older)
    ≡ true

-- an event left the client without an offer or a lease: a reset, a refusal, or its time
pub record IsLostAt (settings : Settings) (entries : List Entry) (place : ℕ) : Type 0 where
  pub entry : Entry
  pub older : List Entry
  pub stands : IsAt entries place entry older
  pub by : (entry.event.arrival ≡ Reset)
      ⊎ (Brought settings entry older ARefusal ⊎ IsEnded settings entry older)

-- an offer by a server was heard before a place
pub record IsOffered (settings : Settings) (entries : List Entry) (place : ℕ) (server : ServerInfo)
    : Type 0 where
  pub offer_place : ℕ
  pub since : ℕ
  pub address : Ipv4Address
  pub before : offer_place < place
  pub heard : IsHeardAt settings entries offer_place since (AnOffer server address)

-- Without a lease: it is the start, or an event lost what there was. With an offer: its event brought it.
-- With a lease: its event brought the acknowledgement, and one before it an offer by the server.
abbrev pub IsRooted : Settings → List Entry → Anchor → Type 0
IsRooted settings entries (Loss place) = (place ≡ 0) ⊎ IsLostAt settings entries place
IsRooted settings entries (Offer place since server address) =
    IsHeardAt settings entries place since (AnOffer server address)
IsRooted settings entries (Ack place since granted server) =
    IsHeardAt settings entries place since (AnAck granted) × IsOffered settings entries place server

abbrev pub AnchorsAreRooted : Type 0
AnchorsAreRooted =
    (settings : Settings) (entries : List Entry) → IsRooted settings entries (anchor_before settings entries)
