-- What revokes nothing leaves an offer and a lease.
use Rattle.std.proofs.Common.{◌≡◌, ℕ, ◌⊎◌, inl, inr, ⊎_elim, List, [], ◌∷◌, ◌++◌, length, refl, sym, ap, ◌∙◌}
use Rattle.dhcp_client.specs.Heard.{Granted, Heard, Nothing, AnOffer, AnAck, ARefusal}
use Rattle.net_wire.specs.declared.dns.dns_type.DnsType.{DnsType}
use Rattle.host_model.specs.Script.{Arrival, Tick, Reset, Frame, Query}
use Rattle.host_model.specs.Settings.{Settings}
use Rattle.host_model.specs.History.{Entry}
use Rattle.host_model.specs.Hearing.{heard_at}
use Rattle.host_model.specs.Anchor.{Anchor, Loss, Offer, Ack, anchor_after_heard, anchor_after_arrival}
use Rattle.host_model.specs.Roots.{Brought}
use Rattle.host_model.specs.LastLease.{Revokes, IsUnrevoked}

heard_keeps : (here at : ℕ) (heard : Heard) (anchor : Anchor) → ((place : ℕ) → anchor ≡ Loss place → ⊥)
    → (heard ≡ ARefusal → ⊥) → ((granted : Granted) → heard ≡ AnAck granted → ⊥)
    → anchor_after_heard here at heard anchor ≡ anchor
heard_keeps here at Nothing anchor has refuses grants = refl
heard_keeps here at (AnOffer server address) (Loss place) has refuses grants = absurd (has place refl)
heard_keeps here at (AnOffer server address) (Offer place since other asked) has refuses grants = refl
heard_keeps here at (AnOffer server address) (Ack place since granted other) has refuses grants = refl
heard_keeps here at (AnAck granted) anchor has refuses grants = absurd (grants granted refl)
heard_keeps here at ARefusal anchor has refuses grants = absurd (refuses refl)

module _ (settings : Settings) where
  pub arrival_keeps : (entry : Entry) (older : List Entry) (arrival : Arrival) → entry.event.arrival ≡ arrival
      → (anchor : Anchor) → ((place : ℕ) → anchor ≡ Loss place → ⊥) → (Revokes settings entry older → ⊥)
      → anchor_after_arrival settings older entry.event.at arrival anchor ≡ anchor
  arrival_keeps entry older Tick is anchor has keeps = refl
  arrival_keeps entry older Reset is anchor has keeps = absurd (keeps (inl is))
  arrival_keeps entry older (Query type_ name) is anchor has keeps = refl
  arrival_keeps entry older (Frame bytes) is anchor has keeps =
      heard_keeps (length older) entry.event.at (heard_at settings older bytes) anchor has
      (λ hears. keeps (inr (inl (record { bytes = bytes; frame = is; hears = hears }))))
      (λ granted hears. keeps (inr (inr (granted, record { bytes = bytes; frame = is; hears = hears }))))

  -- nor does what is neither a reset nor a frame, or a frame of which neither a refusal nor an
  -- acknowledgement is heard
  silent_keeps : (entry : Entry) (older : List Entry) → (entry.event.arrival ≡ Reset → ⊥)
      → ((bytes : List ℕ) → entry.event.arrival ≡ Frame bytes → ⊥) → Revokes settings entry older → ⊥
  silent_keeps entry older no_reset no_frame revokes = ⊎_elim
      (λ (reset : entry.event.arrival ≡ Reset). no_reset reset)
      (λ (heard : Brought settings entry older ARefusal
      ⊎ (granted : Granted) × Brought settings entry older (AnAck granted)).
      ⊎_elim
      (λ (refused : Brought settings entry older ARefusal). no_frame refused.bytes refused.frame)
      (λ (acked : (granted : Granted) × Brought settings entry older (AnAck granted)).
      no_frame acked.1.bytes acked.1.frame)
      heard)
      revokes

  pub tick_keeps : (entry : Entry) (older : List Entry) → entry.event.arrival ≡ Tick
      → Revokes settings entry older → ⊥
  tick_keeps entry older is = silent_keeps entry older
      (λ reset. let clash : Tick ≡ Reset = sym is ∙ reset in cc)
      (λ bytes frame. let clash : Tick ≡ Frame bytes = sym is ∙ frame in cc)

  pub query_keeps : (entry : Entry) (older : List Entry) (type_ : DnsType) (name : List ℕ)
      → entry.event.arrival ≡ Query type_ name → Revokes settings entry older → ⊥
  query_keeps entry older type_ name is = silent_keeps entry older
      (λ reset. let clash : Query type_ name ≡ Reset = sym is ∙ reset in cc)
      (λ bytes frame. let clash : Query type_ name ≡ Frame bytes = sym is ∙ frame in cc)

  same_heard : (entry : Entry) (older : List Entry) (bytes : List ℕ) (heard other : Heard)
      → entry.event.arrival ≡ Frame bytes → heard_at settings older bytes ≡ heard
      → Brought settings entry older other → heard ≡ other
  same_heard entry older bytes heard other is hears brought =
      let frames : Frame bytes ≡ Frame brought.bytes = sym is ∙ brought.frame in
      let same : bytes ≡ brought.bytes = cc in
      sym hears ∙ ap (heard_at settings older) same ∙ brought.hears

  pub frame_keeps : (entry : Entry) (older : List Entry) (bytes : List ℕ) (heard : Heard)
      → entry.event.arrival ≡ Frame bytes → heard_at settings older bytes ≡ heard
      → (heard ≡ ARefusal → ⊥) → ((granted : Granted) → heard ≡ AnAck granted → ⊥)
      → Revokes settings entry older → ⊥
  frame_keeps entry older bytes heard is hears refuses grants revokes = ⊎_elim
      (λ (reset : entry.event.arrival ≡ Reset). (let clash : Frame bytes ≡ Reset = sym is ∙ reset in cc))
      (λ (told : Brought settings entry older ARefusal
      ⊎ (granted : Granted) × Brought settings entry older (AnAck granted)).
      ⊎_elim
      (λ (refused : Brought settings entry older ARefusal).
      refuses (same_heard entry older bytes heard ARefusal is hears refused))
      (λ (acked : (granted : Granted) × Brought settings entry older (AnAck granted)).
      grants acked.0 (same_heard entry older bytes heard (AnAck acked.0) is hears acked.1))
      told)
      revokes

  -- events of which none revokes: none, the later ones, and one more
  pub none_newer : (older : List Entry) → IsUnrevoked settings [] older
  none_newer older [] earlier entry split revokes = absurd (cc)
  none_newer older (first ∷ later) earlier entry split revokes = absurd (cc)

  pub newest_keeps : (entry : Entry) (newer older : List Entry) → IsUnrevoked settings (entry ∷ newer) older
      → Revokes settings entry (newer ++ older) → ⊥
  newest_keeps entry newer older unrevoked = unrevoked [] newer entry refl

  pub others_keep : (entry : Entry) (newer older : List Entry) → IsUnrevoked settings (entry ∷ newer) older
      → IsUnrevoked settings newer older
  others_keep entry newer older unrevoked later earlier other split =
      unrevoked (entry ∷ later) earlier other (ap (λ l. entry ∷ l) split)

  at_split : (entry : Entry) (entries newer older later earlier : List Entry) (other : Entry)
      → entries ≡ newer ++ older → (Revokes settings entry entries → ⊥) → IsUnrevoked settings newer older
      → entry ∷ newer ≡ later ++ other ∷ earlier → Revokes settings other (earlier ++ older) → ⊥
  at_split entry entries newer older [] earlier other whole keeps unrevoked split revokes =
      let same : entry ≡ other = cc in
      let rest : newer ≡ earlier = cc in
      keeps (rw (same, whole, rest) revokes)
  at_split entry entries newer older (first ∷ later) earlier other whole keeps unrevoked split revokes =
      let rest : newer ≡ later ++ other ∷ earlier = cc in
      unrevoked later earlier other rest revokes

  pub one_more : (entry : Entry) (entries newer older : List Entry) → entries ≡ newer ++ older
      → (Revokes settings entry entries → ⊥) → IsUnrevoked settings newer older
      → IsUnrevoked settings (entry ∷ newer) older
  one_more entry entries newer older whole keeps unrevoked later earlier other split revokes =
      at_split entry entries newer older later earlier other whole keeps unrevoked split revokes
