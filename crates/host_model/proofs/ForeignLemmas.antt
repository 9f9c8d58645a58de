-- What is found from the entries before an event stays the same where one of them has another event, as long
-- as that one leaves the same anchor and tells the same of stations.
use Rattle.std.proofs.Common.{◌≡◌, ℕ, zero, suc, ◌-◌, List, [], ◌∷◌, ◌++◌, Option, Some, None, length, take, refl, ap, ap₂, ◌∙◌}
use Rattle.net_wire.specs.declared.address.Ipv4Address.{Ipv4Address}
use Rattle.host_model.specs.declared.words.EventWords.{EventWords}
use Rattle.host_model.specs.Script.{Arrival, Tick, Reset, Frame, Query, Event}
use Rattle.host_model.specs.Settings.{Settings}
use Rattle.host_model.specs.History.{Entry, SentMessage, Transmission, id_of, last_id, sent_times, times_since, with_time}
use Rattle.host_model.specs.Anchor.{Anchor, Loss, anchor_after, anchor_after_arrival, anchor_after_time, anchor_at, anchor_before, place_of}
use Rattle.host_model.specs.Chronicle.{entry_of, sent_by}
use Rattle.host_model.specs.Named.{named_message}
use Rattle.host_model.specs.Neighbor.{events_of, hop_address, hop_of, known_at, known_hop, neighbor_in, or_told, told_by}
use Rattle.host_model.specs.Lease.{held_before, held_under}
use Rattle.host_model.proofs.Alike.{AreAlike}

module _ (settings : Settings) (before : List Entry) (one other : Entry)
    (alike : AreAlike settings before one other) where
  pub same_length : (newer : List Entry) → length (newer ++ one ∷ before) ≡ length (newer ++ other ∷ before)
  same_length [] = refl
  same_length (entry ∷ newer) = ap suc (same_length newer)

  pub same_id : (newer : List Entry) → last_id (newer ++ one ∷ before) ≡ last_id (newer ++ other ∷ before)
  same_id [] = ap (λ sent. id_of sent (last_id before)) alike.sent
  same_id (entry ∷ newer) = ap (id_of entry.sent) (same_id newer)

  same_sent : (count : ℕ) (newer : List Entry)
      → sent_times (take count (newer ++ one ∷ before)) ≡ sent_times (take count (newer ++ other ∷ before))
  same_sent zero newer = refl
  same_sent (suc count) [] =
      ap₂ (λ sent at. with_time sent at (sent_times (take count before))) alike.sent alike.at
  same_sent (suc count) (entry ∷ newer) = ap (with_time entry.sent entry.event.at) (same_sent count newer)

  pub same_times : (newer : List Entry) (place : ℕ)
      → times_since place (newer ++ one ∷ before) ≡ times_since place (newer ++ other ∷ before)
  same_times newer place =
      rw (same_length newer) (same_sent (length (newer ++ other ∷ before) - place) newer)

  pub same_neighbor : (newer : List Entry) (address : Ipv4Address)
      → neighbor_in settings (events_of (newer ++ one ∷ before)) address
      ≡ neighbor_in settings (events_of (newer ++ other ∷ before)) address
  same_neighbor [] address =
      ap₂ (λ at told. or_told address at told (neighbor_in settings (events_of before) address))
      alike.at alike.told
  same_neighbor (entry ∷ newer) address =
      ap (or_told address entry.event.at (told_by settings entry.event.arrival)) (same_neighbor newer address)

  same_arrival : (newer : List Entry) (at : ℕ) (arrival : Arrival) (anchor : Anchor)
      → anchor_after_arrival settings (newer ++ one ∷ before) at arrival anchor
      ≡ anchor_after_arrival settings (newer ++ other ∷ before) at arrival anchor
  same_arrival newer at Tick anchor = refl
  same_arrival newer at Reset anchor = ap Loss (same_length newer)
  same_arrival newer at (Frame bytes) anchor = rw (same_length newer, same_id newer) refl
  same_arrival newer at (Query type_ name) anchor = refl

  same_time : (newer : List Entry) (at : ℕ) (anchor : Anchor)
      → anchor_after_time settings (newer ++ one ∷ before) at anchor
      ≡ anchor_after_time settings (newer ++ other ∷ before) at anchor
  same_time newer at anchor = rw (same_times newer (place_of anchor), same_length newer) refl

  same_after : (newer : List Entry) (event : Event) (anchor : Anchor)
      → anchor_after settings (newer ++ one ∷ before) event anchor
      ≡ anchor_after settings (newer ++ other ∷ before) event anchor
  same_after newer event anchor =
      same_time newer event.at
      (anchor_after_arrival settings (newer ++ one ∷ before) event.at event.arrival anchor)
      ∙ ap (anchor_after_time settings (newer ++ other ∷ before) event.at)
      (same_arrival newer event.at event.arrival anchor)

  pub same_anchor : (newer : List Entry)
      → anchor_before settings (newer ++ one ∷ before) ≡ anchor_before settings (newer ++ other ∷ before)
  same_anchor [] = alike.anchor
  same_anchor (entry ∷ newer) =
      same_after newer entry.event (anchor_before settings (newer ++ one ∷ before))
      ∙ ap (anchor_after settings (newer ++ other ∷ before) entry.event) (same_anchor newer)

  same_anchor_at : (newer : List Entry) (event : Event)
      → anchor_at settings (newer ++ one ∷ before) event ≡ anchor_at settings (newer ++ other ∷ before) event
  same_anchor_at newer event =
      same_after newer event (anchor_before settings (newer ++ one ∷ before))
      ∙ ap (anchor_after settings (newer ++ other ∷ before) event) (same_anchor newer)

  pub same_message : (newer : List Entry) (event : Event) (words : EventWords)
      → named_message settings (newer ++ one ∷ before) event words
      ≡ named_message settings (newer ++ other ∷ before) event words
  same_message newer event words =
      rw (
        same_anchor_at newer event,
        same_id newer,
        same_times newer (place_of (anchor_at settings (newer ++ other ∷ before) event)),
      )
      refl

  pub same_held : (newer : List Entry)
      → held_before settings (newer ++ one ∷ before) ≡ held_before settings (newer ++ other ∷ before)
  same_held newer = ap held_under (same_anchor newer)

  same_known : (newer : List Entry) (event : Event) (address : Option Ipv4Address)
      → known_at settings (event ∷ events_of (newer ++ one ∷ before)) event.at address
      ≡ known_at settings (event ∷ events_of (newer ++ other ∷ before)) event.at address
  same_known newer event None = refl
  same_known newer event (Some address) =
      ap (λ known. hop_of event.at (or_told address event.at (told_by settings event.arrival) known))
      (same_neighbor newer address)

  pub same_hop : (newer : List Entry) (event : Event) (destination : Ipv4Address)
      → known_hop settings (newer ++ one ∷ before) event destination
      ≡ known_hop settings (newer ++ other ∷ before) event destination
  same_hop newer event destination =
      rw (
        same_held newer,
        same_known newer event (hop_address (held_before settings (newer ++ other ∷ before)) destination),
      )
      refl

  same_sending : (newer : List Entry) (event : Event) (message : Option Transmission)
      → sent_by (known_hop settings (newer ++ one ∷ before) event) message
      ≡ sent_by (known_hop settings (newer ++ other ∷ before) event) message
  same_sending newer event None = refl
  same_sending newer event (Some transmission) = rw (same_hop newer event transmission.destination) refl

  pub same_entry : (newer : List Entry) (event : Event) (words : EventWords)
      → entry_of settings (newer ++ one ∷ before) event words
      ≡ entry_of settings (newer ++ other ∷ before) event words
  same_entry newer event words =
      let with_sent : Option SentMessage → Entry =
      λ sent. record { event = event; words = words; sent = sent } in
      rw (same_message newer event words)
      (ap with_sent
      (same_sending newer event (named_message settings (newer ++ other ∷ before) event words)))
