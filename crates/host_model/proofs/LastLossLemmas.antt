-- The loss that the client goes by is the last one.
use Rattle.std.proofs.Common.{◌≡◌, ℕ, ◌⊎◌, inl, inr, ⊎_elim, List, [], ◌∷◌, ◌++◌, length, refl, sym, ap, ◌∙◌}
use Rattle.net_wire.specs.declared.address.Ipv4Address.{Ipv4Address}
use Rattle.dhcp_client.specs.declared.state.ServerInfo.{ServerInfo}
use Rattle.dhcp_client.specs.Heard.{Heard, Nothing, AnOffer, AnAck, ARefusal}
use Rattle.host_model.specs.Script.{Arrival, Tick, Reset, Frame, Query}
use Rattle.host_model.specs.Settings.{Settings}
use Rattle.host_model.specs.History.{Entry, times_since}
use Rattle.host_model.specs.Hearing.{heard_at}
use Rattle.host_model.specs.Anchor.{Anchor, Loss, Offer, Ack, anchor_after_heard, anchor_after_arrival, anchor_after_time, anchor_before, is_over, place_of}
use Rattle.host_model.specs.Roots.{Brought, IsEnded, arrived}
use Rattle.host_model.specs.LastLease.{AcceptsAcks}
use Rattle.host_model.specs.LastLoss.{Loses, IsLostBy, EndsLoss, IsLossOf}
use Rattle.host_model.proofs.HopLemmas.{by_test}

module _ (settings : Settings) (place : ℕ) where
  abbrev NoneEnds : List Entry → List Entry → Type 0
  NoneEnds newer older = (later earlier : List Entry) (entry : Entry) → newer ≡ later ++ entry ∷ earlier
      → EndsLoss settings entry (earlier ++ older) → ⊥

  -- what is no reset and brings no offer leaves a loss
  heard_keeps : (here at : ℕ) (heard : Heard)
      → ((server : ServerInfo) (address : Ipv4Address) → heard ≡ AnOffer server address → ⊥)
      → anchor_after_heard here at heard (Loss place) ≡ Loss place
  heard_keeps here at Nothing offers = refl
  heard_keeps here at (AnOffer server address) offers = absurd (offers server address refl)
  heard_keeps here at (AnAck granted) offers = refl
  heard_keeps here at ARefusal offers = refl

  arrival_keeps : (entry : Entry) (older : List Entry) (arrival : Arrival) → entry.event.arrival ≡ arrival
      → (EndsLoss settings entry older → ⊥)
      → anchor_after_arrival settings older entry.event.at arrival (Loss place) ≡ Loss place
  arrival_keeps entry older Tick is keeps = refl
  arrival_keeps entry older (Query type_ name) is keeps = refl
  arrival_keeps entry older Reset is keeps = absurd (keeps (inl is))
  arrival_keeps entry older (Frame bytes) is keeps =
      heard_keeps (length older) entry.event.at (heard_at settings older bytes)
      (λ server address hears.
      keeps (inr (server, address, record { bytes = bytes; frame = is; hears = hears })))

  keeps_loss : (entry : Entry) (older : List Entry) → (EndsLoss settings entry older → ⊥)
      → anchor_before settings older ≡ Loss place → anchor_before settings (entry ∷ older) ≡ Loss place
  keeps_loss entry older keeps is =
      ap (λ anchor. anchor_after_time settings older entry.event.at
      (anchor_after_arrival settings older entry.event.at entry.event.arrival anchor)) is
      ∙ ap (anchor_after_time settings older entry.event.at)
      (arrival_keeps entry older entry.event.arrival refl keeps)

  keep_loss : (newer older : List Entry) → NoneEnds newer older
      → anchor_before settings older ≡ Loss place → anchor_before settings (newer ++ older) ≡ Loss place
  keep_loss [] older none is = is
  keep_loss (entry ∷ newer) older none is =
      keeps_loss entry (newer ++ older) (none [] newer entry refl)
      (keep_loss newer older
      (λ later earlier other split. none (entry ∷ later) earlier other (ap (λ l. entry ∷ l) split)) is)

  refused : (here at : ℕ) (old : Anchor) → ((lost : ℕ) → old ≡ Loss lost → ⊥)
      → anchor_after_heard here at ARefusal old ≡ Loss here
  refused here at (Loss lost) has = absurd (has lost refl)
  refused here at (Offer other since server address) has = refl
  refused here at (Ack other since granted server) has = refl

  loses : (entry : Entry) (older : List Entry) → Loses settings entry older
      → anchor_before settings (entry ∷ older) ≡ Loss (length older)
  loses entry older by = ⊎_elim
      (λ (reset : entry.event.arrival ≡ Reset).
      ap (λ arrival. anchor_after_time settings older entry.event.at
      (anchor_after_arrival settings older entry.event.at arrival (anchor_before settings older))) reset)
      (λ (other : (Brought settings entry older ARefusal × AcceptsAcks settings older)
      ⊎ IsEnded settings entry older).
      ⊎_elim
      (λ (refusal : Brought settings entry older ARefusal × AcceptsAcks settings older).
      ap (λ arrival. anchor_after_time settings older entry.event.at
      (anchor_after_arrival settings older entry.event.at arrival (anchor_before settings older))) refusal.0.frame
      ∙ ap (λ heard. anchor_after_time settings older entry.event.at
      (anchor_after_heard (length older) entry.event.at heard (anchor_before settings older))) refusal.0.hears
      ∙ ap (anchor_after_time settings older entry.event.at)
      (refused (length older) entry.event.at (anchor_before settings older) refusal.1))
      (λ (ended : IsEnded settings entry older). rw ended refl)
      other)
      by

  lost_at : (older : List Entry) → IsLostBy settings place older → anchor_before settings older ≡ Loss place
  lost_at [] start = ap Loss (sym start)
  lost_at (entry ∷ older) lost = loses entry older lost.1 ∙ ap Loss lost.0

  pub loss_held : (entries : List Entry) → IsLossOf settings entries place
      → anchor_before settings entries ≡ Loss place
  loss_held entries is =
      ap (anchor_before settings) is.split ∙ keep_loss is.newer is.older is.lasting (lost_at is.older is.lost)

  -- an event that is no reset and brings no offer
  quiet : (entry : Entry) (older : List Entry) (arrival : Arrival) → entry.event.arrival ≡ arrival
      → (arrival ≡ Reset → ⊥) → ((bytes : List ℕ) → arrival ≡ Frame bytes → ⊥)
      → EndsLoss settings entry older → ⊥
  quiet entry older arrival is no_reset no_frame ends = ⊎_elim
      (λ (reset : entry.event.arrival ≡ Reset). no_reset (sym is ∙ reset))
      (λ (offered : (server : ServerInfo) × (address : Ipv4Address)
      × Brought settings entry older (AnOffer server address)).
      no_frame offered.2.bytes (sym is ∙ offered.2.frame))
      ends

  frame_quiet : (entry : Entry) (older : List Entry) (bytes : List ℕ) (heard : Heard)
      → entry.event.arrival ≡ Frame bytes → heard_at settings older bytes ≡ heard
      → ((server : ServerInfo) (address : Ipv4Address) → heard ≡ AnOffer server address → ⊥)
      → EndsLoss settings entry older → ⊥
  frame_quiet entry older bytes heard is hears offers ends = ⊎_elim
      (λ (reset : entry.event.arrival ≡ Reset). (let clash : Frame bytes ≡ Reset = sym is ∙ reset in cc))
      (λ (offered : (server : ServerInfo) × (address : Ipv4Address)
      × Brought settings entry older (AnOffer server address)).
      let frames : Frame bytes ≡ Frame offered.2.bytes = sym is ∙ offered.2.frame in
      let same : bytes ≡ offered.2.bytes = cc in
      offers offered.0 offered.1
      (sym hears ∙ ap (heard_at settings older) same ∙ offered.2.hears))
      ends

  -- the anchor before an event that left a loss, or what the event lost
  abbrev Tells : Entry → List Entry → Type 0
  Tells entry older =
      ((EndsLoss settings entry older → ⊥) × (anchor_before settings older ≡ Loss place))
      ⊎ ((length older ≡ place) × Loses settings entry older)

  heard_tells : (entry : Entry) (older : List Entry) (bytes : List ℕ) (heard : Heard) (old : Anchor)
      → entry.event.arrival ≡ Frame bytes → heard_at settings older bytes ≡ heard
      → anchor_before settings older ≡ old
      → anchor_after_heard (length older) entry.event.at heard old ≡ Loss place
      → Tells entry older
  heard_tells entry older bytes Nothing old is hears before leaves =
      inl (frame_quiet entry older bytes Nothing is hears (λ s a e. cc), before ∙ leaves)
  heard_tells entry older bytes (AnOffer from asked) (Loss other) is hears before leaves = absurd (cc)
  heard_tells entry older bytes (AnOffer from asked) (Offer other start old lent) is hears before leaves = absurd (cc)
  heard_tells entry older bytes (AnOffer from asked) (Ack other start lent old) is hears before leaves = absurd (cc)
  heard_tells entry older bytes (AnAck grant) (Loss other) is hears before leaves =
      inl (frame_quiet entry older bytes (AnAck grant) is hears (λ s a e. cc), before ∙ leaves)
  heard_tells entry older bytes (AnAck grant) (Offer other start asked lent) is hears before leaves = absurd (cc)
  heard_tells entry older bytes (AnAck grant) (Ack other start lent asked) is hears before leaves = absurd (cc)
  heard_tells entry older bytes ARefusal (Loss other) is hears before leaves =
      inl (frame_quiet entry older bytes ARefusal is hears (λ s a e. cc), before ∙ leaves)
  heard_tells entry older bytes ARefusal (Offer other start asked lent) is hears before leaves = inr (
    (cc),
    inr (inl (
      record { bytes = bytes; frame = is; hears = hears },
      λ lost loss. (let clash : Offer other start asked lent ≡ Loss lost = sym before ∙ loss in cc),
    )),
  )
  heard_tells entry older bytes ARefusal (Ack other start lent asked) is hears before leaves = inr (
    (cc),
    inr (inl (
      record { bytes = bytes; frame = is; hears = hears },
      λ lost loss. (let clash : Ack other start lent asked ≡ Loss lost = sym before ∙ loss in cc),
    )),
  )

  arrival_tells : (entry : Entry) (older : List Entry) (arrival : Arrival) → entry.event.arrival ≡ arrival
      → anchor_after_arrival settings older entry.event.at arrival (anchor_before settings older) ≡ Loss place
      → Tells entry older
  arrival_tells entry older Tick is leaves =
      inl (quiet entry older Tick is (λ e. cc) (λ bytes e. cc), leaves)
  arrival_tells entry older (Query type_ name) is leaves =
      inl (quiet entry older (Query type_ name) is (λ e. cc) (λ bytes e. cc), leaves)
  arrival_tells entry older Reset is leaves = inr ((cc), inl is)
  arrival_tells entry older (Frame bytes) is leaves =
      heard_tells entry older bytes (heard_at settings older bytes) (anchor_before settings older) is refl refl
      leaves

  at_split : (entry : Entry) (entries newer older later earlier : List Entry) (other : Entry)
      → entries ≡ newer ++ older → (EndsLoss settings entry entries → ⊥) → NoneEnds newer older
      → entry ∷ newer ≡ later ++ other ∷ earlier → EndsLoss settings other (earlier ++ older) → ⊥
  at_split entry entries newer older [] earlier other whole keeps none split ends =
      let same : entry ≡ other = cc in
      let rest : newer ≡ earlier = cc in
      keeps (rw (same, whole, rest) ends)
  at_split entry entries newer older (first ∷ later) earlier other whole keeps none split ends =
      let rest : newer ≡ later ++ other ∷ earlier = cc in
      none later earlier other rest ends

  no_newer : (older : List Entry) → NoneEnds [] older
  no_newer older [] earlier entry split ends = absurd (cc)
  no_newer older (first ∷ later) earlier entry split ends = absurd (cc)

  loss_on : (entry : Entry) (entries : List Entry) → (EndsLoss settings entry entries → ⊥)
      → IsLossOf settings entries place → IsLossOf settings (entry ∷ entries) place
  loss_on entry entries keeps is = record {
    newer = entry ∷ is.newer;
    older = is.older;
    split = ap (λ l. entry ∷ l) is.split;
    lost = is.lost;
    lasting = λ later earlier other split ends.
        at_split entry entries is.newer is.older later earlier other is.split keeps is.lasting split ends;
  }

  pub loss_found : (entries : List Entry) → anchor_before settings entries ≡ Loss place
      → IsLossOf settings entries place
  loss_found [] is = record {
    newer = [];
    older = [];
    split = refl;
    lost = (cc);
    lasting = no_newer [];
  }
  loss_found (entry ∷ older) is =
      let anchor : Anchor = arrived settings entry older in
      let lost_here : (length older ≡ place) × Loses settings entry older
      → IsLossOf settings (entry ∷ older) place =
      λ lost. record {
        newer = [];
        older = entry ∷ older;
        split = refl;
        lost = lost;
        lasting = no_newer (entry ∷ older);
      } in
      by_test (is_over settings.client.retry (times_since (place_of anchor) older) entry.event.at anchor)
      (λ over.
      let here : Loss (length older) ≡ Loss place = sym (rw over refl) ∙ is in
      lost_here ((cc), inr (inr over)))
      (λ going.
      let stays : anchor ≡ Loss place = sym (rw going refl) ∙ is in
      ⊎_elim
      (λ (kept : (EndsLoss settings entry older → ⊥) × (anchor_before settings older ≡ Loss place)).
      loss_on entry older kept.0 (loss_found older kept.1))
      (λ (lost : (length older ≡ place) × Loses settings entry older). lost_here lost)
      (arrival_tells entry older entry.event.arrival refl stays))
