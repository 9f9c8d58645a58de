-- The offer that the client goes by is the last accepted one.
use Rattle.std.proofs.Common.{◌≡◌, ℕ, ◌<◌, ◌≤◌, ◌⊎◌, inl, inr, ⊎_elim, Bool, false, nat_le, List, [], ◌∷◌, ◌++◌, length, refl, sym, ap, ap₂, ◌∙◌, arith, length-append}
use Rattle.std.proofs.lemmas.Bool.{lt-leb, leb-false, and_left, and_right, and_cases}
use Rattle.net_wire.specs.declared.address.Ipv4Address.{Ipv4Address}
use Rattle.dhcp_client.specs.declared.state.ServerInfo.{ServerInfo}
use Rattle.dhcp_client.specs.Heard.{Heard, Nothing, AnOffer, AnAck, ARefusal}
use Rattle.host_model.specs.Script.{Arrival, Tick, Reset, Frame, Query}
use Rattle.host_model.specs.Settings.{Settings}
use Rattle.host_model.specs.History.{Entry, times_since}
use Rattle.host_model.specs.Hearing.{heard_at}
use Rattle.host_model.specs.Due.{offer_due}
use Rattle.host_model.specs.Anchor.{Anchor, Loss, Offer, Ack, anchor_after_heard, anchor_after_arrival, anchor_after_time, anchor_before, is_over}
use Rattle.host_model.specs.Roots.{Brought, arrived}
use Rattle.host_model.specs.LastLease.{Revokes, IsUnrevoked}
use Rattle.host_model.specs.LastOffer.{IsWaiting, AcceptsOffers, IsOfferOf}
use Rattle.host_model.proofs.HopLemmas.{by_test}
use Rattle.host_model.proofs.RevokeLemmas.{arrival_keeps, tick_keeps, query_keeps, frame_keeps, none_newer, newest_keeps}
use Rattle.host_model.proofs.RevokeLemmas.{others_keep, one_more}

module _ (settings : Settings) (place since : ℕ) (server : ServerInfo) (address : Ipv4Address) where
  abbrev AllWait : List Entry → Type 0
  AllWait entries = (later earlier : List Entry) (other : Entry) → entries ≡ later ++ other ∷ earlier
      → place ≤ length earlier → IsWaiting settings place since other earlier

  not_over : (entry : Entry) (older : List Entry) → IsWaiting settings place since entry older
      → is_over settings.client.retry (times_since place older) entry.event.at (Offer place since server address) ≡ false
  not_over entry older waits =
      let retry = settings.client.retry in
      let sent : List ℕ = times_since place older in
      let due : ℕ = offer_due settings.client.retry since sent in
      ⊎_elim
      (λ (few : length sent < retry.request_retries).
      and_left (nat_le retry.request_retries (length sent)) (nat_le due entry.event.at)
      (lt-leb retry.request_retries (length sent) few))
      (λ (early : entry.event.at < due).
      and_right (nat_le retry.request_retries (length sent)) (nat_le due entry.event.at)
      (lt-leb due entry.event.at early))
      waits

  is_waiting : (entry : Entry) (older : List Entry)
      → is_over settings.client.retry (times_since place older) entry.event.at (Offer place since server address) ≡ false
      → IsWaiting settings place since entry older
  is_waiting entry older going =
      let retry = settings.client.retry in
      let sent : List ℕ = times_since place older in
      let due : ℕ = offer_due settings.client.retry since sent in
      ⊎_elim
      (λ (few : nat_le retry.request_retries (length sent) ≡ false). inl (leb-false _ _ few))
      (λ (early : nat_le due entry.event.at ≡ false). inr (leb-false _ _ early))
      (and_cases (nat_le retry.request_retries (length sent)) (nat_le due entry.event.at) going)

  time_keeps : (entry : Entry) (older : List Entry) → IsWaiting settings place since entry older
      → anchor_after_time settings older entry.event.at (Offer place since server address)
      ≡ Offer place since server address
  time_keeps entry older waits = rw (not_over entry older waits) refl

  keeps_offer : (entry : Entry) (older : List Entry) → (Revokes settings entry older → ⊥)
      → IsWaiting settings place since entry older
      → anchor_before settings older ≡ Offer place since server address
      → anchor_before settings (entry ∷ older) ≡ Offer place since server address
  keeps_offer entry older keeps waits is =
      ap (λ anchor. anchor_after_time settings older entry.event.at
      (anchor_after_arrival settings older entry.event.at entry.event.arrival anchor)) is
      ∙ ap (anchor_after_time settings older entry.event.at)
      (arrival_keeps settings entry older entry.event.arrival refl (Offer place since server address)
      (λ lost is. cc) keeps)
      ∙ time_keeps entry older waits

  keep_offer : (newer older : List Entry) → IsUnrevoked settings newer older → AllWait (newer ++ older)
      → place ≤ length older
      → anchor_before settings older ≡ Offer place since server address
      → anchor_before settings (newer ++ older) ≡ Offer place since server address
  keep_offer [] older unrevoked waiting within is = is
  keep_offer (entry ∷ newer) older unrevoked waiting within is =
      let behind : place ≤ length (newer ++ older) = omega (arith, within, length-append newer older) in
      keeps_offer entry (newer ++ older) (newest_keeps settings entry newer older unrevoked)
      (waiting [] (newer ++ older) entry refl behind)
      (keep_offer newer older (others_keep settings entry newer older unrevoked)
      (λ later earlier other split far. waiting (entry ∷ later) earlier other (ap (λ l. entry ∷ l) split) far)
      within is)

  begins_offer : (entry : Entry) (older : List Entry) → Brought settings entry older (AnOffer server address)
      → AcceptsOffers settings older → length older ≡ place → entry.event.at ≡ since
      → IsWaiting settings place since entry older
      → anchor_before settings (entry ∷ older) ≡ Offer place since server address
  begins_offer entry older brought accepts placed time waits =
      ap (λ arrival. anchor_after_time settings older entry.event.at
      (anchor_after_arrival settings older entry.event.at arrival (anchor_before settings older))) brought.frame
      ∙ ap (λ heard. anchor_after_time settings older entry.event.at
      (anchor_after_heard (length older) entry.event.at heard (anchor_before settings older))) brought.hears
      ∙ ap (λ anchor. anchor_after_time settings older entry.event.at
      (anchor_after_heard (length older) entry.event.at (AnOffer server address) anchor)) accepts.1
      ∙ ap (λ here. anchor_after_time settings older entry.event.at (Offer here entry.event.at server address)) placed
      ∙ ap (λ at. anchor_after_time settings older entry.event.at (Offer place at server address)) time
      ∙ time_keeps entry older waits

  pub offer_held : (entries : List Entry) → IsOfferOf settings entries place since server address
      → anchor_before settings entries ≡ Offer place since server address
  offer_held entries is =
      let here : place ≤ length is.older = omega (arith, is.placed) in
      let own : IsWaiting settings place since is.entry is.older =
      is.waiting is.newer is.older is.entry is.split here in
      ap (anchor_before settings) is.split
      ∙ keep_offer is.newer (is.entry ∷ is.older) is.unrevoked
      (λ later earlier other split far. is.waiting later earlier other (is.split ∙ split) far)
      (omega (arith, here))
      (begins_offer is.entry is.older is.heard is.accepted is.placed is.time own)

  -- time left an offer: it waits
  time_tells : (entry : Entry) (older : List Entry) (anchor : Anchor)
      → anchor_after_time settings older entry.event.at anchor ≡ Offer place since server address
      → (anchor ≡ Offer place since server address) × IsWaiting settings place since entry older
  time_tells entry older (Loss other) is = absurd (cc)
  time_tells entry older (Ack other start lent asked) is =
      let anchor : Anchor = Ack other start lent asked in
      by_test (is_over settings.client.retry (times_since other older) entry.event.at anchor)
      (λ over.
      let clash : Loss (length older) ≡ Offer place since server address = sym (rw over refl) ∙ is in
      absurd (cc))
      (λ going.
      let clash : anchor ≡ Offer place since server address = sym (rw going refl) ∙ is in
      absurd (cc))
  time_tells entry older (Offer other start asked lent) is =
      let anchor : Anchor = Offer other start asked lent in
      let over_at : Anchor → ℕ → Bool = λ a p. is_over settings.client.retry (times_since p older) entry.event.at a in
      by_test (is_over settings.client.retry (times_since other older) entry.event.at anchor)
      (λ over.
      let clash : Loss (length older) ≡ Offer place since server address = sym (rw over refl) ∙ is in
      absurd (cc))
      (λ going.
      let same : anchor ≡ Offer place since server address = sym (rw going refl) ∙ is in
      let places : other ≡ place = cc in (
        same,
        is_waiting entry older
            (ap (λ a. over_at a place) (sym same) ∙ ap (λ p. over_at anchor p) (sym places) ∙ going),
      ))

  -- the anchor before an event that left an offer, or what the event brought
  abbrev Tells : Entry → List Entry → Type 0
  Tells entry older =
      ((Revokes settings entry older → ⊥) × (anchor_before settings older ≡ Offer place since server address))
      ⊎ (Brought settings entry older (AnOffer server address) × AcceptsOffers settings older
      × (length older ≡ place) × (entry.event.at ≡ since))

  heard_tells : (entry : Entry) (older : List Entry) (bytes : List ℕ) (heard : Heard) (old : Anchor)
      → entry.event.arrival ≡ Frame bytes → heard_at settings older bytes ≡ heard
      → anchor_before settings older ≡ old
      → anchor_after_heard (length older) entry.event.at heard old ≡ Offer place since server address
      → Tells entry older
  heard_tells entry older bytes Nothing old is hears before leaves =
      inl (frame_keeps settings entry older bytes Nothing is hears (λ e. cc) (λ other e. cc), before ∙ leaves)
  heard_tells entry older bytes (AnOffer from asked) (Loss other) is hears before leaves =
      let servers : from ≡ server = cc in
      let addresses : asked ≡ address = cc in
      let same : AnOffer from asked ≡ AnOffer server address = ap₂ AnOffer servers addresses in
      inr (
        record { bytes = bytes; frame = is; hears = hears ∙ same },
        (other, before),
        (cc),
        (cc),
      )
  heard_tells entry older bytes (AnOffer from asked) (Offer other start old lent) is hears before leaves =
      inl (
        frame_keeps settings entry older bytes (AnOffer from asked) is hears (λ e. cc) (λ other e. cc),
        before ∙ leaves,
      )
  heard_tells entry older bytes (AnOffer from asked) (Ack other start lent old) is hears before leaves = absurd (cc)
  heard_tells entry older bytes (AnAck grant) (Loss other) is hears before leaves = absurd (cc)
  heard_tells entry older bytes (AnAck grant) (Offer other start asked lent) is hears before leaves = absurd (cc)
  heard_tells entry older bytes (AnAck grant) (Ack other start lent asked) is hears before leaves = absurd (cc)
  heard_tells entry older bytes ARefusal (Loss other) is hears before leaves = absurd (cc)
  heard_tells entry older bytes ARefusal (Offer other start asked lent) is hears before leaves = absurd (cc)
  heard_tells entry older bytes ARefusal (Ack other start lent asked) is hears before leaves = absurd (cc)

  arrival_tells : (entry : Entry) (older : List Entry) (arrival : Arrival) → entry.event.arrival ≡ arrival
      → anchor_after_arrival settings older entry.event.at arrival (anchor_before settings older)
      ≡ Offer place since server address
      → Tells entry older
  arrival_tells entry older Tick is leaves = inl (tick_keeps settings entry older is, leaves)
  arrival_tells entry older (Query type_ name) is leaves = inl (query_keeps settings entry older type_ name is, leaves)
  arrival_tells entry older Reset is leaves = absurd (cc)
  arrival_tells entry older (Frame bytes) is leaves =
      heard_tells entry older bytes (heard_at settings older bytes) (anchor_before settings older) is refl refl
      leaves

  -- the newest entry waits, and those of them that do
  wait_more : (entry : Entry) (entries : List Entry) → IsWaiting settings place since entry entries
      → AllWait entries → (later earlier : List Entry) (other : Entry)
      → entry ∷ entries ≡ later ++ other ∷ earlier → place ≤ length earlier
      → IsWaiting settings place since other earlier
  wait_more entry entries waits waiting [] earlier other split within =
      let same : entry ≡ other = cc in
      let rest : entries ≡ earlier = cc in
      rw (sym same, sym rest) waits
  wait_more entry entries waits waiting (first ∷ later) earlier other split within =
      let rest : entries ≡ later ++ other ∷ earlier = cc in
      waiting later earlier other rest within

  none_waits : (older : List Entry) → length older ≡ place → AllWait older
  none_waits older placed later earlier other split within =
      let counted : length older ≡ length (later ++ other ∷ earlier) = ap length split in
      absurd (omega (arith, placed, within, counted, length-append later (other ∷ earlier)))

  offer_on : (entry : Entry) (entries : List Entry) → (Revokes settings entry entries → ⊥)
      → IsWaiting settings place since entry entries → IsOfferOf settings entries place since server address
      → IsOfferOf settings (entry ∷ entries) place since server address
  offer_on entry entries keeps waits is = record {
    newer = entry ∷ is.newer;
    entry = is.entry;
    older = is.older;
    split = ap (λ l. entry ∷ l) is.split;
    placed = is.placed;
    time = is.time;
    heard = is.heard;
    accepted = is.accepted;
    unrevoked =
        one_more settings entry entries is.newer (is.entry ∷ is.older) is.split keeps is.unrevoked;
    waiting = wait_more entry entries waits is.waiting;
  }

  pub offer_found : (entries : List Entry) → anchor_before settings entries ≡ Offer place since server address
      → IsOfferOf settings entries place since server address
  offer_found [] is = absurd (cc)
  offer_found (entry ∷ older) is =
      let told : (arrived settings entry older ≡ Offer place since server address)
      × IsWaiting settings place since entry older =
      time_tells entry older (arrived settings entry older) is in
      ⊎_elim
      (λ (kept : (Revokes settings entry older → ⊥)
      × (anchor_before settings older ≡ Offer place since server address)).
      offer_on entry older kept.0 told.1 (offer_found older kept.1))
      (λ (begun : Brought settings entry older (AnOffer server address) × AcceptsOffers settings older
      × (length older ≡ place) × (entry.event.at ≡ since)).
      record {
        newer = [];
        entry = entry;
        older = older;
        split = refl;
        placed = begun.2;
        time = begun.3;
        heard = begun.0;
        accepted = begun.1;
        unrevoked = none_newer settings (entry ∷ older);
        waiting = wait_more entry older told.1 (none_waits older begun.2);
      })
      (arrival_tells entry older entry.event.arrival refl told.0)
