-- What was heard at a place stays so with an entry more.
use Rattle.std.proofs.Common.{◌≡◌, ℕ, ◌<◌, inl, inr, ⊎_elim, List, ◌∷◌, ◌++◌, length, ap, arith, length-append}
use Rattle.dhcp_client.specs.declared.state.ServerInfo.{ServerInfo}
use Rattle.dhcp_client.specs.Heard.{Heard, AnOffer, AnAck}
use Rattle.host_model.specs.Settings.{Settings}
use Rattle.host_model.specs.History.{Entry}
use Rattle.host_model.specs.Anchor.{Anchor, Loss, Offer, Ack}
use Rattle.host_model.specs.Roots.{IsAt, IsHeardAt, IsLostAt, IsOffered, IsRooted}

-- an entry more changes no entry's place
stands_on : (entries older : List Entry) (place : ℕ) (entry newest : Entry) → IsAt entries place entry older
    → IsAt (newest ∷ entries) place entry older
stands_on entries older place entry newest stands = record {
  newer = newest ∷ stands.newer;
  whole = ap (λ l. newest ∷ l) stands.whole;
  placed = stands.placed;
}

pub heard_on : (settings : Settings) (entries : List Entry) (place at : ℕ) (heard : Heard) (newest : Entry)
    → IsHeardAt settings entries place at heard → IsHeardAt settings (newest ∷ entries) place at heard
heard_on settings entries place at heard newest is = record {
  entry = is.entry;
  older = is.older;
  stands = stands_on entries is.older place is.entry newest is.stands;
  time = is.time;
  brought = is.brought;
}

pub offered_on : (settings : Settings) (entries : List Entry) (place : ℕ) (server : ServerInfo)
    (newest : Entry) → IsOffered settings entries place server → IsOffered settings (newest ∷ entries) place server
offered_on settings entries place server newest is = record {
  offer_place = is.offer_place;
  since = is.since;
  address = is.address;
  before = is.before;
  heard = heard_on settings entries is.offer_place is.since (AnOffer server is.address) newest is.heard;
}

lost_on : (settings : Settings) (entries : List Entry) (place : ℕ) (newest : Entry)
    → IsLostAt settings entries place → IsLostAt settings (newest ∷ entries) place
lost_on settings entries place newest is = record {
  entry = is.entry;
  older = is.older;
  stands = stands_on entries is.older place is.entry newest is.stands;
  by = is.by;
}

pub rooted_on : (settings : Settings) (entries : List Entry) (newest : Entry) (anchor : Anchor)
    → IsRooted settings entries anchor → IsRooted settings (newest ∷ entries) anchor
rooted_on settings entries newest (Loss place) rooted =
    ⊎_elim (λ (start : place ≡ 0). inl start)
    (λ (lost : IsLostAt settings entries place). inr (lost_on settings entries place newest lost)) rooted
rooted_on settings entries newest (Offer place since server address) rooted =
    heard_on settings entries place since (AnOffer server address) newest rooted
rooted_on settings entries newest (Ack place since granted server) rooted = (
  heard_on settings entries place since (AnAck granted) newest rooted.0,
  offered_on settings entries place server newest rooted.1,
)

-- a place at which something was heard is one of the entries'
pub placed_before : (settings : Settings) (entries : List Entry) (place at : ℕ) (heard : Heard)
    → IsHeardAt settings entries place at heard → place < length entries
placed_before settings entries place at heard is =
    let counted : length entries ≡ length (is.stands.newer ++ is.entry ∷ is.older) =
    ap length is.stands.whole in
    omega (arith, counted, length-append is.stands.newer (is.entry ∷ is.older), is.stands.placed)
