-- Anchors come from the events at their places.
use Rattle.std.proofs.Common.{◌≡◌, ◌<◌, inl, inr, List, [], ◌∷◌, length, refl, arith}
use Rattle.std.proofs.lemmas.Bool.{cond_both}
use Rattle.dhcp_client.specs.Heard.{Heard, Nothing, AnOffer, AnAck, ARefusal}
use Rattle.host_model.specs.Script.{Arrival, Tick, Reset, Frame, Query}
use Rattle.host_model.specs.Settings.{Settings}
use Rattle.host_model.specs.History.{Entry, times_since}
use Rattle.host_model.specs.Hearing.{heard_at}
use Rattle.host_model.specs.Anchor.{Anchor, Loss, Offer, Ack, anchor_after_heard, anchor_after_arrival, anchor_before, is_over, place_of}
use Rattle.host_model.specs.Roots.{IsAt, Brought, IsHeardAt, IsLostAt, IsOffered, IsRooted, arrived}
use Rattle.host_model.proofs.StandingLemmas.{heard_on, offered_on, rooted_on, placed_before}

-- the newest entry
newest_at : (before : List Entry) (entry : Entry) → IsAt (entry ∷ before) (length before) entry before
newest_at before entry = record { newer = []; whole = refl; placed = refl }

heard_here : (settings : Settings) (before : List Entry) (entry : Entry) (heard : Heard)
    → Brought settings entry before heard
    → IsHeardAt settings (entry ∷ before) (length before) entry.event.at heard
heard_here settings before entry heard brought = record {
  entry = entry;
  older = before;
  stands = newest_at before entry;
  time = refl;
  brought = brought;
}

refused_here : (settings : Settings) (before : List Entry) (entry : Entry)
    → Brought settings entry before ARefusal → IsLostAt settings (entry ∷ before) (length before)
refused_here settings before entry brought =
    record { entry = entry; older = before; stands = newest_at before entry; by = inr (inl brought) }

rooted_heard : (settings : Settings) (before : List Entry) (entry : Entry) (heard : Heard) (anchor : Anchor)
    → Brought settings entry before heard → IsRooted settings before anchor
    → IsRooted settings (entry ∷ before) (anchor_after_heard (length before) entry.event.at heard anchor)
rooted_heard settings before entry (AnOffer server address) (Loss place) brought rooted =
    heard_here settings before entry (AnOffer server address) brought
rooted_heard settings before entry (AnAck granted) (Offer place since server address) brought rooted = (
  heard_here settings before entry (AnAck granted) brought,
  record {
    offer_place = place;
    since = since;
    address = address;
    before = placed_before settings before place since (AnOffer server address) rooted;
    heard = heard_on settings before place since (AnOffer server address) entry rooted;
  },
)
rooted_heard settings before entry (AnAck granted) (Ack place since old server) brought rooted =
    let offered : IsOffered settings (entry ∷ before) place server =
    offered_on settings before place server entry rooted.1 in
    let within : place < length before = placed_before settings before place since (AnAck old) rooted.0 in (
      heard_here settings before entry (AnAck granted) brought,
      record {
        offer_place = offered.offer_place;
        since = offered.since;
        address = offered.address;
        before = omega (arith, offered.before, within);
        heard = offered.heard;
      },
    )
rooted_heard settings before entry ARefusal (Offer place since server address) brought rooted =
    inr (refused_here settings before entry brought)
rooted_heard settings before entry ARefusal (Ack place since granted server) brought rooted =
    inr (refused_here settings before entry brought)
rooted_heard settings before entry Nothing anchor brought rooted =
    rooted_on settings before entry anchor rooted
rooted_heard settings before entry (AnOffer server address) (Offer place since old asked) brought rooted =
    rooted_on settings before entry (Offer place since old asked) rooted
rooted_heard settings before entry (AnOffer server address) (Ack place since granted old) brought rooted =
    rooted_on settings before entry (Ack place since granted old) rooted
rooted_heard settings before entry (AnAck granted) (Loss place) brought rooted =
    rooted_on settings before entry (Loss place) rooted
rooted_heard settings before entry ARefusal (Loss place) brought rooted =
    rooted_on settings before entry (Loss place) rooted

rooted_arrival : (settings : Settings) (before : List Entry) (entry : Entry) (arrival : Arrival)
    (anchor : Anchor) → entry.event.arrival ≡ arrival → IsRooted settings before anchor
    → IsRooted settings (entry ∷ before) (anchor_after_arrival settings before entry.event.at arrival anchor)
rooted_arrival settings before entry Tick anchor is rooted = rooted_on settings before entry anchor rooted
rooted_arrival settings before entry Reset anchor is rooted =
    inr (record { entry = entry; older = before; stands = newest_at before entry; by = inl is })
rooted_arrival settings before entry (Frame bytes) anchor is rooted =
    rooted_heard settings before entry (heard_at settings before bytes) anchor
    (record { bytes = bytes; frame = is; hears = refl }) rooted
rooted_arrival settings before entry (Query type_ name) anchor is rooted = rooted_on settings before entry anchor rooted

pub rooted : (settings : Settings) (entries : List Entry)
    → IsRooted settings entries (anchor_before settings entries)
rooted settings [] = inl refl
rooted settings (entry ∷ before) =
    let anchor : Anchor = arrived settings entry before in
    let arrival : IsRooted settings (entry ∷ before) anchor =
    rooted_arrival settings before entry entry.event.arrival (anchor_before settings before) refl
    (rooted settings before) in
    cond_both (is_over settings.client.retry (times_since (place_of anchor) before) entry.event.at anchor)
    (Loss (length before)) anchor (λ (a : Anchor). IsRooted settings (entry ∷ before) a)
    (λ over.
    inr (record { entry = entry; older = before; stands = newest_at before entry; by = inr (inr over) }))
    (λ going. arrival)
